-- The tender's demand 3 of each profile with the crate's cache, and so of every run in it: "Reason: time must move."
-- Document 02, R-4: "demand 3 of both, shown once over the profile".
--
-- In each, p is the profile.
--   Meeting          ==  a retirement, and the state that it meets
--   meetings p s es  ==  the retirements of a run of events from the state s, each with the state that it meets
--   is_free p m      ==  demand 3's first sentence: "the window was open and it either .. or .."
--   is_zero n        ==  the cost n is 0
--   TimeMoves p      ==  the facts, each for every state; of every trace and batch, of a refused one too, which counts
--                        none
use Rattle.std.specs.Prelude.{ℕ, ◌+◌, ◌/◌, ◌≤◌, ◌≡◌, Bool, true, false, ◌&&◌, ◌||◌, List, [], ◌∷◌, map, eqb, length, take}
use Rattle.little_endian.specs.Numbers.{numbers_at}
use Rattle.profile.specs.declared.Profile.{Profile}
use Rattle.state.specs.declared.Retirement.{Retirement}
use Rattle.state.specs.declared.Event.{Event}
use Rattle.state.specs.declared.Event.TheVariants.{Retired, Broken, ClearedAll, ClearedUser}
use Rattle.state.specs.declared.Oep060Timing.{Oep060Timing}
use Rattle.state.specs.Events.{State, after, count_of}
use Rattle.state.specs.CrateCache.{crate_cache}
use Rattle.state.specs.Timing.{state_of, seen_of}
use Rattle.step.specs.Boards.{board_of}
use Rattle.refusals.specs.Given.{is_accepted}
use Rattle.refusals.specs.Runs.{Runs, rooms_of}
use Rattle.records.specs.TraceTable.{Accepts}
use Rattle.trace.specs.Run.{run_trace_of}
use Rattle.batch.specs.Batch.{events_of, batch_of}
use Rattle.promises.specs.Demand3.{joins, folds, Demand3}

pub record Meeting : Type 0 where
  pub state : State crate_cache
  pub retirement : Retirement

abbrev pub meetings : Profile → State crate_cache → List Event → List Meeting
meetings p s [] = []
meetings p s (Retired r ∷ es) = record { state = s; retirement = r } ∷ meetings p (after (board_of p) s (Retired r)) es
meetings p s (Broken ∷ es) = meetings p (after (board_of p) s Broken) es
meetings p s (ClearedAll ∷ es) = meetings p (after (board_of p) s ClearedAll) es
meetings p s (ClearedUser ∷ es) = meetings p (after (board_of p) s ClearedUser) es

abbrev pub is_free : Profile → Meeting → Bool
is_free p m = m.state.window.opened && (joins (board_of p) m.state m.retirement
    || folds (board_of p) m.state m.retirement)

abbrev pub is_zero : ℕ → Bool
is_zero n = eqb n 0

pub record TimeMoves (p : Profile) : Type 0 where
  -- the demand, of this board
  pub board : Demand3 (board_of p)
  -- "n retirements cost at least n/2 rounded down,"
  pub trace : (trace : List ℕ) (lent : Runs) (t : Oep060Timing)
      → (run_trace_of p trace lent t).ran.count / 2 ≤ (run_trace_of p trace lent t).ran.total
  pub batch : (rs : List Retirement) (lent : Runs) (t : Oep060Timing)
      → (batch_of p rs lent t).ran.count / 2 ≤ (batch_of p rs lent t).ran.total
  -- "or rounded up if the window began shut"
  pub trace_shut : (trace : List ℕ) (lent : Runs) (t : Oep060Timing) → t.window.opened ≡ false
      → ((run_trace_of p trace lent t).ran.count + 1) / 2 ≤ (run_trace_of p trace lent t).ran.total
  pub batch_shut : (rs : List Retirement) (lent : Runs) (t : Oep060Timing) → t.window.opened ≡ false
      → ((batch_of p rs lent t).ran.count + 1) / 2 ≤ (batch_of p rs lent t).ran.total
  -- "a retirement costs 0 exactly when the window was open and it either .. or ..": each cost in the lent places
  pub trace_zero : (trace : List ℕ) (lent : Runs) (t : Oep060Timing) (es : List Event)
      → Accepts trace (rooms_of lent) es
      → map is_zero (numbers_at (count_of es) 4 (run_trace_of p trace lent t).lent.costs 0) ≡ map (is_free p)
      (meetings p (state_of (seen_of t)) es)
  pub batch_zero : (rs : List Retirement) (lent : Runs) (t : Oep060Timing)
      → is_accepted (batch_of p rs lent t).ran.verdict ≡ true
      → map is_zero (take (length rs) (batch_of p rs lent t).lent.costs) ≡ map (is_free p)
      (meetings p (state_of (seen_of t)) (events_of rs))
