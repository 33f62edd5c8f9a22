-- Document 01, "One retirement": facts of one event on the crate's state, each for every state, in either profile.
--
--   Pairs r       ==  r keeps the flow, is no branch, and meets an open window whose dispatch test it passes
--   EveryEvent p  ==  the facts, in the profile p
use Rattle.std.specs.Prelude.{ℕ, ◌-◌, ◌≡◌, Bool, true, false}
use Rattle.class_word.specs.Word.{has, class_of, clocks, BRANCH, VARIABLE, UNCLASSIFIED, EA_INDEXED}
use Rattle.branch_cache.specs.Slot.{hit_of}
use Rattle.branch_cache.specs.Cache.{slot_at, slot_of, cache_update_of}
use Rattle.window.specs.declared.dispatch.Instruction.{Instruction}
use Rattle.window.specs.declared.dispatch.Controls.{Controls}
use Rattle.window.specs.declared.Window.{Window}
use Rattle.cost.specs.Retiring.{Retiring}
use Rattle.window.specs.Windows.{shut, seen}
use Rattle.window.specs.Dispatch.{passes}
use Rattle.cost.specs.Cost.{cost_of, base_of}
use Rattle.branch_cache.specs.declared.BranchCache060.{BranchCache060}
use Rattle.profile.specs.declared.Profile.{Profile}
use Rattle.state.specs.declared.Oep060Timing.{Oep060Timing}
use Rattle.state.specs.declared.Retirement.{Retirement}
use Rattle.state.specs.declared.Event.TheVariants.{Retired, Broken, ClearedAll, ClearedUser}
use Rattle.state.specs.Events.{retiring_of}
use Rattle.state.specs.Timing.{state_of}
use Rattle.step.specs.Boards.{board_of, stepped_of, after_of}
use Rattle.branch_cache.specs.declared.slot.Slot.{Slot}

pub record Pairs (r : Retiring) : Type 0 where
  pub straight : has r.instruction.word.0 BRANCH ≡ false
  pub kept : r.controls.flowed ≡ false
  pub waiting : r.window.opened ≡ true
  pub passed : passes r.instruction r.controls r.window ≡ true

pub record EveryEvent (p : Profile) : Type 0 where
  -- the promise of `cycles_060` is the machine's step: its cost, the state after the retirement, and the cache's answer
  pub step_cost : (t : Oep060Timing) (r : Retirement)
      → (stepped_of p t r).cost ≡ clocks (cost_of (retiring_of (board_of p) (state_of t) r))
  pub step_state : (t : Oep060Timing) (r : Retirement) → (stepped_of p t r).timing ≡ after_of p t (Retired r)
  pub step_answer : (t : Oep060Timing) (r : Retirement)
      → (stepped_of p t r).answer ≡ (retiring_of (board_of p) (state_of t) r).answer
  -- "window shut, base less 1 (always 0)": over any class word the base less 1, never below 0; over those of a profile
  -- always 0
  pub pair_cost : (r : Retiring) → Pairs r → cost_of r ≡ base_of r.instruction r.controls - 1
  pub pair_costs_nothing : (t : Oep060Timing) (r : Retirement) → Pairs (retiring_of (board_of p) (state_of t) r)
      → cost_of (retiring_of (board_of p) (state_of t) r) ≡ 0
  -- the dispatch test leaves only class 0 words that are neither indexed, unclassified nor variable
  pub passing_class : (i : Instruction) (k : Controls) (w : Window) → passes i k w ≡ true → class_of i.word.0 ≡ 0
  pub passing_unindexed : (i : Instruction) (k : Controls) (w : Window) → passes i k w ≡ true
      → has i.word.0 EA_INDEXED ≡ false
  pub passing_classified : (i : Instruction) (k : Controls) (w : Window) → passes i k w ≡ true
      → has i.word.0 UNCLASSIFIED ≡ false
  pub passing_fixed : (i : Instruction) (k : Controls) (w : Window) → passes i k w ≡ true
      → has i.word.0 VARIABLE ≡ false
  -- "A break shuts the window in place and touches nothing else."
  pub break_keeps_cache : (t : Oep060Timing) → (after_of p t Broken).cache ≡ t.cache
  pub break_shuts : (t : Oep060Timing) → (after_of p t Broken).window ≡ shut
  -- "tags and window stay", the window as it is read
  pub clear_all_keeps_tags : (t : Oep060Timing) → (after_of p t ClearedAll).cache.tags ≡ t.cache.tags
  pub clear_all_keeps_window : (t : Oep060Timing) → (after_of p t ClearedAll).window ≡ seen t.window
  pub clear_user_keeps_tags : (t : Oep060Timing) → (after_of p t ClearedUser).cache.tags ≡ t.cache.tags
  pub clear_user_keeps_window : (t : Oep060Timing) → (after_of p t ClearedUser).window ≡ seen t.window
  -- "a not-taken miss changes nothing"
  pub miss_keeps : (c : BranchCache060) (pc : ℕ) → hit_of (slot_at c (slot_of pc)) pc ≡ false → (user : Bool)
      → cache_update_of c pc false user ≡ c
  -- "a tag in a foreign slot never hits"
  pub foreign_misses : (slot : Slot) (pc : ℕ) → (slot_of slot.tag ≡ slot_of pc → ⊥) → hit_of slot pc ≡ false
