-- Document 02, R-5: what holds of the cache's answers. "The playout desk sees a 7 and can't tell a cold slot from a
-- wrong guess. The branch cost shall also answer: not consulted, miss, predicted not taken, predicted taken."
--
-- In each, p is the profile.
--   instruction p r  ==  what the retirement r is to the window
--   consulted p r    ==  the cache is consulted about it: it is a branch, with EBC on and the fetch cached
--   told p t r       ==  the number that the step from the state t tells of it
--   told_at p m      ==  the same of a retirement with the state that it meets
--   EveryAnswer p    ==  the facts, each for every state
use Rattle.std.specs.Prelude.{ℕ, ◌≡◌, ◌↔◌, Bool, true, false, not, List, map, Some, None, eqb, length, take}
use Rattle.class_word.specs.Word.{has, BRANCH}
use Rattle.branch_cache.specs.Cache.{cache_predict_of}
use Rattle.window.specs.declared.dispatch.Instruction.{Instruction}
use Rattle.cost.specs.Branch.{taken_of, answer_number}
use Rattle.profile.specs.declared.Profile.{Profile}
use Rattle.profile.specs.Profile.{profile_of}
use Rattle.state.specs.declared.Retirement.{Retirement}
use Rattle.state.specs.declared.Event.{Event}
use Rattle.state.specs.declared.Oep060Timing.{Oep060Timing}
use Rattle.state.specs.Events.{consults, count_of}
use Rattle.state.specs.Timing.{state_of, timing_of, seen_of}
use Rattle.step.specs.Boards.{stepped_of}
use Rattle.refusals.specs.Given.{is_accepted}
use Rattle.refusals.specs.Runs.{Runs, rooms_of}
use Rattle.records.specs.TraceTable.{Accepts}
use Rattle.trace.specs.Run.{run_trace_of}
use Rattle.batch.specs.Batch.{events_of, batch_of}
use Rattle.promises.specs.Moving.{Meeting, meetings}

abbrev pub instruction : Profile → Retirement → Instruction
instruction p r = profile_of p r.op

abbrev pub consulted : Profile → Retirement → Bool
consulted p r = consults (instruction p r) r.controls

abbrev pub told : Profile → Oep060Timing → Retirement → ℕ
told p t r = answer_number (stepped_of p t r).answer

abbrev pub told_at : Profile → Meeting → ℕ
told_at p m = told p (timing_of m.state) m.retirement

pub record EveryAnswer (p : Profile) : Type 0 where
  -- "0 for non-branches"
  pub non_branch : (t : Oep060Timing) (r : Retirement) → has (instruction p r).word.0 BRANCH ≡ false → told p t r ≡ 0
  -- 0 exactly where the cache is not consulted; else by what `predict` says before the step: 1 a miss, 2 predicted not
  -- taken, 3 predicted taken
  pub not_consulted : (t : Oep060Timing) (r : Retirement) → (told p t r ≡ 0) ↔ (consulted p r ≡ false)
  pub miss : (t : Oep060Timing) (r : Retirement) → consulted p r ≡ true
      → (told p t r ≡ 1) ↔ (cache_predict_of t.cache r.controls.ppc ≡ None)
  pub not_taken : (t : Oep060Timing) (r : Retirement) → consulted p r ≡ true
      → (told p t r ≡ 2) ↔ (cache_predict_of t.cache r.controls.ppc ≡ Some false)
  pub taken : (t : Oep060Timing) (r : Retirement) → consulted p r ≡ true
      → (told p t r ≡ 3) ↔ (cache_predict_of t.cache r.controls.ppc ≡ Some true)
  -- "sees a 7": where the cache is consulted, a branch costs 7 exactly where it was predicted taken and is not, or was
  -- not predicted taken and is
  pub seven : (t : Oep060Timing) (r : Retirement) → consulted p r ≡ true
      → ((stepped_of p t r).cost.0 ≡ 7) ↔ (eqb (told p t r) 3 ≡ not (taken_of (instruction p r) r.controls))
  -- "one byte a retirement into a second lent run": each is what a step from the state that the retirement meets tells
  pub trace_answers : (trace : List ℕ) (lent : Runs) (t : Oep060Timing) (es : List Event)
      → Accepts trace (rooms_of lent) es
      → take (count_of es) (run_trace_of p trace lent t).lent.answers ≡ map (told_at p)
      (meetings p (state_of (seen_of t)) es)
  pub batch_answers : (rs : List Retirement) (lent : Runs) (t : Oep060Timing)
      → is_accepted (batch_of p rs lent t).ran.verdict ≡ true
      → take (length rs) (batch_of p rs lent t).lent.answers ≡ map (told_at p)
      (meetings p (state_of (seen_of t)) (events_of rs))
