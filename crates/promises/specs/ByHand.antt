-- Document 01, "What the promises must say": "every input determines the result and all lent bytes afterwards, refusals
-- too", of four functions whose promise is written here by hand once more, in the words of its `ensures`: a relation
-- between what it is handed, what it returns, and what it was lent to write, as that is afterwards. None of the four
-- asks anything of its caller.
--
--   BreakAllows w r w'        ==  `break_060_pipeline`, lent the window w, may leave the window w': the shut one. It
--                                 returns nothing, which is r
--   BreakInPlaceAllows w r x  ==  `break_in_place`, handed the window w, may return r: the shut one. It is lent
--                                 nothing, which is x
--   Batch                     ==  what `run_batch` is handed: the lent records, the two lent runs for costs and
--                                 answers, and the state with its profile
--   BatchAllows b ran x       ==  `run_batch`, handed b, may return ran and leave the two runs x: both as `batch_of`
--                                 has them
--   BatchOf64                 ==  what `run_batch_of_64` is handed: its 64 records, how many of them to run, the two
--                                 lent runs, and the state with its profile
--   BatchOf64Allows b ran x   ==  `run_batch_of_64`, handed b, may return ran and leave the two runs x: both as
--                                 `batch_of` has them of so many records, the first ones
--   ByHand                    ==  the four facts: of each function any two answers that are allowed at one input are
--                                 equal, what is returned and everything that was lent to write
use Rattle.std.specs.Prelude.{ℕ, ◌≡◌, List, take}
use Rattle.window.specs.declared.Window.{Window}
use Rattle.window.specs.Windows.{shut}
use Rattle.state.specs.declared.Retirement.{Retirement}
use Rattle.refusals.specs.declared.outcome.Ran.{Ran}
use Rattle.refusals.specs.Runs.{Runs}
use Rattle.step.specs.declared.Chosen.{Chosen}
use Rattle.batch.specs.Batch.{batch_outcome, batch_of}
use Rattle.promises.specs.Determined.{Determined, result}

abbrev pub BreakAllows : Window → Unit {0} → Window → Type 0
BreakAllows w r w' = w' ≡ shut

abbrev pub BreakInPlaceAllows : Window → Window → Unit {0} → Type 0
BreakInPlaceAllows w r x = r ≡ shut

pub record Batch : Type 0 where
  pub records : List Retirement
  pub lent : Runs
  pub chosen : Chosen

abbrev pub BatchAllows : Batch → Ran → Runs → Type 0
BatchAllows b ran x = batch_outcome ran x ≡ batch_of b.chosen.profile b.records b.lent b.chosen.timing

pub record BatchOf64 : Type 0 where
  pub records : List Retirement
  pub count : ℕ
  pub lent : Runs
  pub chosen : Chosen

abbrev pub BatchOf64Allows : BatchOf64 → Ran → Runs → Type 0
BatchOf64Allows b ran x = batch_outcome ran x ≡ batch_of b.chosen.profile (take b.count b.records) b.lent
    b.chosen.timing

pub record ByHand : Type 0 where
  pub break060_pipeline : Determined (λ r w'. w') BreakAllows
  pub break_in_place : Determined result BreakInPlaceAllows
  pub run_batch : Determined batch_outcome BatchAllows
  pub run_batch_of_64 : Determined batch_outcome BatchOf64Allows
