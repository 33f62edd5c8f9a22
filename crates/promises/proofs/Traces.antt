-- The facts of every run of a trace, from the laws of the crate trace; and a run is its events walked one by one, by their number.
-- Assumes nothing.
use mathlib.Core.Path.{◌≡◌, refl, ap}
use mathlib.Core.Bool.{true}
use mathlib.Core.List.{List, [], ◌∷◌}
use Prim.Native.Nat.{ℕ}
use native.Mathlib.Omega.{arith}
use lib.ListN.{length-append}
use Rattle.cost.specs.Cost.{cost_of, predicted_of}
use Rattle.profile.specs.declared.Profile.{Profile}
use Rattle.state.specs.declared.Oep060Timing.{Oep060Timing}
use Rattle.state.specs.declared.Event.{Event}
use Rattle.state.specs.declared.Event.TheVariants.{Retired, Broken, ClearedAll, ClearedUser}
use Rattle.state.specs.Events.{retiring_of, retirements, finally, costs, answers}
use Rattle.state.specs.Timing.{state_of, timing_of, seen_of, stepped_by}
use Rattle.step.specs.Boards.{board_of, stepped_of, after_of}
use Rattle.trace.proofs.Refused.{run_refused, run_refused_only, run_keeps, run_accepted, run_accepted_only}
use Rattle.trace.proofs.Parts.{run_parts}
use Rattle.promises.specs.Traces.{Walked, walked, EveryTrace}
use Rattle.refusals.specs.Given.{gives}
use Rattle.refusals.specs.Runs.{Runs, rooms_of}
use Rattle.refusals.proofs.Told.{told_gives}
use Rattle.records.specs.TraceTable.{Refuses}
use Rattle.trace.specs.Run.{TraceOutcome, run_trace_of}

steps : (P : Profile) (t : Oep060Timing) (es : List Event)
    → ◌≡◌ {A = Walked} (record { costs = costs (board_of P) (state_of t) es; answers = answers (board_of P) (state_of t) es; timing = timing_of (finally (board_of P) (state_of t) es) }) (walked P t es)
unfolding retirements finally stepped_by
steps P t [] = refl
steps P t (Retired r ∷ es) =
    ap (λ (s : Walked). record { costs = cost_of (retiring_of (board_of P) (state_of t) r) ∷ s.costs; answers = predicted_of (retiring_of (board_of P) (state_of t) r) ∷ s.answers; timing = s.timing })
    (steps P (stepped_of P t r).timing es)
steps P t (Broken ∷ es) = steps P (after_of P t Broken) es
steps P t (ClearedAll ∷ es) = steps P (after_of P t ClearedAll) es
steps P t (ClearedUser ∷ es) = steps P (after_of P t ClearedUser) es

refused_gives : (P : Profile) (trace : List ℕ) (lent : Runs) (t : Oep060Timing) {n p : ℕ} → Refuses trace (rooms_of lent) n p → gives n p (run_trace_of P trace lent t).ran.verdict ≡ true
refused_gives P trace lent t h =
    let x = run_refused P trace lent t h in
    told_gives (record { refusal = x.refusal; number = x.number; place = x.place; so = ap (λ (o : TraceOutcome). o.ran.verdict) x.so })

pub every_trace : (P : Profile) → EveryTrace P
every_trace P =
    record {
      given = λ trace lent t n p. (run_refused_only P trace lent t, refused_gives P trace lent t);
      refused_keeps = run_keeps P;
      accepted_then = λ trace lent t es h. run_accepted P trace lent t h;
      accepted_only = run_accepted_only P;
      step_by_step = λ t es. steps P (seen_of t) es;
      in_parts = λ a b l m t es fs size first fills tells second. run_parts P a b l m t first second fills tells (omega (arith, length-append a b));
    }
