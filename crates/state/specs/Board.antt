-- What is chosen at the start. A retirement's cost goes by the profile's instruction and the cache's answer, and by
-- nothing else of either.
--
--   CacheRule  ==  a branch cache: its states, what it predicts of the branch at an address, its next state (address,
--                  taken, user mode), and the two clears
--   Board      ==  a profile, which says what each opcode is to the pairing window (class word, uses and defs), and a
--                  cache
use Rattle.std.specs.Prelude.{ℕ, Bool, Option}
use Rattle.window.specs.declared.dispatch.Instruction.{Instruction}

pub record CacheRule : Type 1 where
  pub Cache : Type 0
  pub predict : Cache → ℕ → Option Bool
  pub update : Cache → ℕ → Bool → Bool → Cache
  pub clear_all : Cache → Cache
  pub clear_user : Cache → Cache

pub record Board : Type 1 where
  pub profile : ℕ → Instruction
  pub rule : CacheRule
