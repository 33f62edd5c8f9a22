-- The opcodes that a run has decoded, in a table of 1,024 numbers. Document 01, "One retirement", asks the class word
-- and the masks of each retirement's opcode: the table answers for those that came before. The Rust: the table of
-- 65,536 class words, made once.
--
--   slot_of op        ==  where in the table the opcode stands
--   entry_of op i     ==  the opcode and what it is to the window, i, as one number: 16 bits each of opcode, word, uses
--                         and defs, the opcode lowest
--   op_in e           ==  the opcode of an entry
--   instruction_in e  ==  what the entry says that its opcode is
--   IsEntry e op i    ==  e is the entry of the opcode, and what it says is i: no bit is lost
--   is_of op e        ==  the entry is there, and is the opcode's
--   Says p e          ==  the entry says of its opcode what the profile p says, unless it is 0
--   Known p es        ==  each entry of the table does
--   kept_of p op es   ==  the table after the opcode was asked: as it was, where it has the opcode; else with the
--                         opcode's entry in its slot
use Rattle.std.specs.Prelude.{ℕ, ◌+◌, ◌*◌, ◌/◌, ◌%◌, ◌^◌, ◌≡◌, Bool, not, cond, ◌&&◌, List, ◌≢◌, eqb, get_or, set}
use Rattle.std.specs.Int.Bits.{bit_xor}
use Rattle.class_word.specs.Word.{info}
use Rattle.window.specs.declared.dispatch.Instruction.{Instruction}
use Rattle.profile.specs.declared.Profile.{Profile}
use Rattle.profile.specs.Profile.{profile_of}

abbrev pub slot_of : ℕ → ℕ
slot_of op = bit_xor op (op / 64) % 1024

abbrev pub entry_of : ℕ → Instruction → ℕ
entry_of op i = op + i.word.0 * 2 ^ 16 + i.uses * 2 ^ 32 + i.defs * 2 ^ 48

abbrev pub op_in : ℕ → ℕ
op_in e = e % 2 ^ 16

abbrev pub instruction_in : ℕ → Instruction
instruction_in e = record { word = info (e / 2 ^ 16 % 2 ^ 16); uses = e / 2 ^ 32 % 2 ^ 16; defs = e / 2 ^ 48 }

abbrev pub IsEntry : ℕ → ℕ → Instruction → Type 0
IsEntry e op i = (e ≡ entry_of op i) × (op_in e ≡ op) × (instruction_in e ≡ i)

abbrev pub is_of : ℕ → ℕ → Bool
is_of op e = not (eqb e 0) && eqb (op_in e) op

abbrev pub Says : Profile → ℕ → Type 0
Says p e = e ≢ 0 → instruction_in e ≡ profile_of p (op_in e)

abbrev pub Known : Profile → List ℕ → Type 0
Known p es = (n : ℕ) → Says p (get_or es n 0)

abbrev pub kept_of : Profile → ℕ → List ℕ → List ℕ
kept_of p op es = cond (is_of op (get_or es (slot_of op) 0)) es (set es (slot_of op) (entry_of op (profile_of p op)))
