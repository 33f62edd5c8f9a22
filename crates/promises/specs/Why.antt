-- Document 02, R-1: what holds of every retirement's reason. "The reason named must hold, every earlier rule must have
-- passed, and where it fixes a cost, that is the step's."
--
--   reasons_in B s es  ==  the reasons of the retirements of a run of events from the state s
--   EveryReason B      ==  the facts, over any board: each for every state, retirement and sequence
--   reason_at p m      ==  the number of the reason of a retirement with the state that it meets, in the profile p
--   free_number n      ==  the number of a reason is that of paired or folded
--   EveryWhy p         ==  the facts of every run that says why, in the profile p
--
-- `fits` is when a reason holds, apart from how it is found, and `earlier` are the rules before one in the one list
-- that the dispatch test reads: reasons/Fits. `RefusesWhy` and `AcceptsWhy` are the rows of the table of refusals:
-- reasons/ExplainTable.
use Rattle.std.specs.Prelude.{ℕ, ◌≡◌, ◌↔◌, Bool, true, false, ◌||◌, List, map, eqb, length, take}
use Rattle.std.proofs.Math.Option.{some}
use Rattle.little_endian.specs.Numbers.{numbers_at, put_at}
use Rattle.window.specs.declared.dispatch.Rule.{Rule}
use Rattle.cost.specs.Cost.{cost_of}
use Rattle.profile.specs.declared.Profile.{Profile}
use Rattle.state.specs.declared.Retirement.{Retirement}
use Rattle.state.specs.declared.Event.{Event}
use Rattle.state.specs.declared.Oep060Timing.{Oep060Timing}
use Rattle.state.specs.Board.{Board}
use Rattle.state.specs.Events.{State, retiring_of, retirements, costs, count_of}
use Rattle.state.specs.Timing.{state_of, seen_of}
use Rattle.step.specs.Boards.{board_of}
use Rattle.refusals.specs.declared.Refusal.{Refusal}
use Rattle.refusals.specs.Refused.{refused_of}
use Rattle.refusals.specs.Given.{gives, is_accepted}
use Rattle.refusals.specs.Runs.{Runs, rooms_of}
use Rattle.trace.specs.Run.{trace_outcome, run_trace_of}
use Rattle.reasons.specs.declared.reason.Reason.{Reason}
use Rattle.reasons.specs.declared.reason.Reason.TheVariants.{Paired, Folded}
use Rattle.reasons.specs.Reasons.{reason_number, of_rule, reason_of}
use Rattle.reasons.specs.Fits.{passed, all_pass, earlier, fits, fixed_cost, costs_nothing}
use Rattle.reasons.specs.ExplainRun.{reasons_of, explain_outcome, explain_trace_of}
use Rattle.reasons.specs.ExplainTable.{RefusesWhy, AcceptsWhy}
use Rattle.promises.specs.Moving.{Meeting, meetings, is_zero}

module _ (B : Board) where
  abbrev pub reasons_in : State B.rule → List Event → List Reason
  reasons_in s es = map reason_of (retirements B s es)

  pub record EveryReason : Type 0 where
    -- "one reason per retirement": a reason holds exactly where it is the one named
    pub exactly_one : (s : State B.rule) (r : Retirement) (x : Reason)
        → (fits (retiring_of B s r) x ≡ true) ↔ (reason_of (retiring_of B s r) ≡ x)
    -- "every earlier rule must have passed", and the one named has failed
    pub earlier_passed : (s : State B.rule) (r : Retirement) (rule : Rule)
        → reason_of (retiring_of B s r) ≡ of_rule rule → all_pass (retiring_of B s r) (earlier rule) ≡ true
    pub rule_failed : (s : State B.rule) (r : Retirement) (rule : Rule)
        → reason_of (retiring_of B s r) ≡ of_rule rule → passed (retiring_of B s r) rule ≡ false
    -- "where it fixes a cost, that is the step's"
    pub fixed : (s : State B.rule) (r : Retirement) (n : ℕ)
        → fixed_cost (reason_of (retiring_of B s r)) ≡ some n → cost_of (retiring_of B s r) ≡ n
    -- demand 3 in the desk's words: a retirement costs 0 exactly when it is paired or folded
    pub zero_exactly : (s : State B.rule) (r : Retirement)
        → (cost_of (retiring_of B s r) ≡ 0) ↔ (costs_nothing (reason_of (retiring_of B s r)) ≡ true)
    -- the same of a sequence, cost by cost
    pub zeros : (s : State B.rule) (es : List Event)
        → map is_zero (costs B s es) ≡ map costs_nothing (reasons_in s es)

abbrev pub reason_at : Profile → Meeting → ℕ
reason_at p m = reason_number (reason_of (retiring_of (board_of p) m.state m.retirement))

abbrev pub free_number : ℕ → Bool
free_number n = eqb n (reason_number Paired) || eqb n (reason_number Folded)

pub record EveryWhy (p : Profile) : Type 0 where
  -- the facts, of this board
  pub board : EveryReason (board_of p)
  -- "Refusals: those of the trace run, 7 for under one reason place a retirement": number n is given at this place
  -- exactly when a row of the table says so
  pub given : (trace : List ℕ) (lent : Runs) (reasons : List ℕ) (t : Oep060Timing) (n place : ℕ)
      → (gives n place (explain_trace_of p trace lent reasons t).outcome.ran.verdict ≡ true)
      ↔ RefusesWhy trace (rooms_of lent) (length reasons) n place
  -- a refused run returns count 0, total 0 and the state it was given, and writes no byte
  pub refused_keeps : (trace : List ℕ) (lent : Runs) (reasons : List ℕ) (t : Oep060Timing)
      → is_accepted (explain_trace_of p trace lent reasons t).outcome.ran.verdict ≡ false
      → (refusal : Refusal) × (explain_trace_of p trace lent reasons t
      ≡ explain_outcome (trace_outcome (refused_of refusal t) lent) reasons)
  -- an accepted one is the trace run, costs, answers and state, with the reasons beside it
  pub accepted_then : (trace : List ℕ) (lent : Runs) (reasons : List ℕ) (t : Oep060Timing) (es : List Event)
      → AcceptsWhy trace (rooms_of lent) (length reasons) es
      → explain_trace_of p trace lent reasons t
      ≡ explain_outcome (run_trace_of p trace lent t) (put_at reasons 0 (reasons_of p t es))
  pub accepted_only : (trace : List ℕ) (lent : Runs) (reasons : List ℕ) (t : Oep060Timing)
      → is_accepted (explain_trace_of p trace lent reasons t).outcome.ran.verdict ≡ true
      → (es : List Event) × AcceptsWhy trace (rooms_of lent) (length reasons) es
  -- each reason is that of its own retirement, with the state that it meets
  pub trace_reasons : (trace : List ℕ) (lent : Runs) (reasons : List ℕ) (t : Oep060Timing) (es : List Event)
      → AcceptsWhy trace (rooms_of lent) (length reasons) es
      → take (count_of es) (explain_trace_of p trace lent reasons t).reasons ≡ map (reason_at p)
      (meetings p (state_of (seen_of t)) es)
  -- and the costs in the lent places are 0 exactly where the reasons in theirs are paired or folded
  pub trace_zeros : (trace : List ℕ) (lent : Runs) (reasons : List ℕ) (t : Oep060Timing) (es : List Event)
      → AcceptsWhy trace (rooms_of lent) (length reasons) es
      → let o = explain_trace_of p trace lent reasons t in
      map is_zero (numbers_at (count_of es) 4 o.outcome.lent.costs 0) ≡ map free_number
      (take (count_of es) o.reasons)
