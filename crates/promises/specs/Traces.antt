-- Document 01, "Records and images": what holds of every run of a trace.
--
-- In each, p is the profile.
--   Walked         ==  costs, answers as numbers, and a state
--   walked p t es  ==  the costs and answers of the events es walked one by one from the state t, and the state after
--                      the last
--   joined x y     ==  two pairs of lent runs as one pair: of each run, that of x and behind it that of y
--   EveryTrace p   ==  the facts, each for every trace, two lent runs and state
--
-- `Refuses` and `Accepts` are the rows of the table of refusals, in the order of the paper: records/TraceTable and
-- RecordTable.
use Rattle.std.specs.Prelude.{ℕ, ◌+◌, ◌*◌, ◌≤◌, ◌≡◌, ◌↔◌, true, false, List, [], ◌∷◌, ◌++◌, length}
use Rattle.cost.specs.Branch.{answer_number}
use Rattle.profile.specs.declared.Profile.{Profile}
use Rattle.state.specs.declared.Oep060Timing.{Oep060Timing}
use Rattle.state.specs.declared.Event.{Event}
use Rattle.state.specs.declared.Event.TheVariants.{Retired, Broken, ClearedAll, ClearedUser}
use Rattle.state.specs.Timing.{seen_of}
use Rattle.step.specs.Boards.{stepped_of, after_of}
use Rattle.refusals.specs.declared.Refusal.{Refusal}
use Rattle.refusals.specs.Refused.{refused_of}
use Rattle.refusals.specs.Runs.{Runs, runs, rooms_of}
use Rattle.refusals.specs.Verdict.{accepted}
use Rattle.trace.specs.Run.{trace_outcome, trace_accepted_of, costs_of, answers_of, next_of, run_trace_of}
use Rattle.records.specs.TraceTable.{Refuses, Accepts}
use Rattle.state.specs.Events.{count_of}
use Rattle.refusals.specs.Given.{gives, is_accepted}

pub record Walked : Type 0 where
  pub costs : List ℕ
  pub answers : List ℕ
  pub timing : Oep060Timing

-- a retirement by the promise of `cycles_060`, a break or a clear by its own
abbrev pub walked : Profile → Oep060Timing → List Event → Walked
walked p t [] = record { costs = []; answers = []; timing = t }
walked p t (Retired r ∷ es) =
    record {
      costs = (stepped_of p t r).cost.0 ∷ (walked p (stepped_of p t r).timing es).costs;
      answers = answer_number (stepped_of p t r).answer ∷ (walked p (stepped_of p t r).timing es).answers;
      timing = (walked p (stepped_of p t r).timing es).timing;
    }
walked p t (Broken ∷ es) = walked p (after_of p t Broken) es
walked p t (ClearedAll ∷ es) = walked p (after_of p t ClearedAll) es
walked p t (ClearedUser ∷ es) = walked p (after_of p t ClearedUser) es

abbrev pub joined : Runs → Runs → Runs
joined x y = runs (x.costs ++ y.costs) (x.answers ++ y.answers)

pub record EveryTrace (p : Profile) : Type 0 where
  -- "Each number is given then and only then": number n is given at this place exactly when a row of the table says so
  pub given : (trace : List ℕ) (lent : Runs) (t : Oep060Timing) (n place : ℕ)
      → (gives n place (run_trace_of p trace lent t).ran.verdict ≡ true) ↔ Refuses trace (rooms_of lent) n place
  -- "A refused run .. returns count 0, total 0 and the state it was given, and writes no byte"
  pub refused_keeps : (trace : List ℕ) (lent : Runs) (t : Oep060Timing)
      → is_accepted (run_trace_of p trace lent t).ran.verdict ≡ false
      → (refusal : Refusal) × (run_trace_of p trace lent t ≡ trace_outcome (refused_of refusal t) lent)
  -- every well-formed trace with room is accepted, and no other
  pub accepted_then : (trace : List ℕ) (lent : Runs) (t : Oep060Timing) (es : List Event)
      → Accepts trace (rooms_of lent) es → run_trace_of p trace lent t ≡ trace_accepted_of p es lent t
  pub accepted_only : (trace : List ℕ) (lent : Runs) (t : Oep060Timing)
      → is_accepted (run_trace_of p trace lent t).ran.verdict ≡ true
      → (es : List Event) × Accepts trace (rooms_of lent) es
  -- a run is its events walked one by one
  pub step_by_step : (t : Oep060Timing) (es : List Event)
      → ◌≡◌ {A = Walked} (record { costs = costs_of p t es; answers = answers_of p t es; timing = next_of p t es })
      (walked p (seen_of t) es)
  -- a run in two parts, the second from the first's next state, gives the same costs, answers, count, total and state
  -- as one
  pub in_parts : (a b : List ℕ) (lent lent' : Runs) (t : Oep060Timing) (es fs : List Event)
      → length a + length b ≤ 16777216
      → Accepts a (rooms_of lent) es → length lent.costs ≡ 4 * count_of es → length lent.answers ≡ count_of es
      → Accepts b (rooms_of lent') fs
      → let first = run_trace_of p a lent t in
      let second = run_trace_of p b lent' first.ran.timing in
      run_trace_of p (a ++ b) (joined lent lent') t
      ≡ trace_outcome
      (record {
        verdict = accepted;
        count = first.ran.count + second.ran.count;
        total = first.ran.total + second.ran.total;
        timing = second.ran.timing;
      })
      (joined first.lent second.lent)
