-- The outcome of a whole run, by the verdict on its trace.
-- Assumes nothing.
use Prim.Native.Nat.{ℕ}
use mathlib.Core.Path.{◌≡◌, sym, ap, ◌∙◌}
use mathlib.Core.List.{List}
use Rattle.profile.specs.declared.Profile.{Profile}
use Rattle.state.specs.declared.Oep060Timing.{Oep060Timing}
use Rattle.refusals.specs.declared.Refusal.{Refusal}
use Rattle.std.specs.Prelude.{Err}
use Rattle.refusals.specs.Verdict.{accepted}
use Rattle.refusals.specs.declared.outcome.Ran.{Ran}
use Rattle.refusals.specs.Refused.{refused_of}
use Rattle.refusals.specs.Runs.{Runs, rooms_of}
use Rattle.records.specs.Trace.{Trace, read_trace}
use Rattle.records.specs.Judged.{judged_trace, verdict_of}
use Rattle.records.proofs.Refused.{refused_so, taken_so}
use Rattle.trace.specs.Run.{trace_outcome, trace_outcome_of, run_trace_of}

module _ (P : Profile) (trace : List ℕ) (lent : Runs) (t : Oep060Timing) where
  pub not_taken : {refusal : Refusal} → verdict_of (judged_trace trace (rooms_of lent)) ≡ Err refusal → {r : Ran} → r ≡ refused_of refusal t
      → trace_outcome r lent ≡ run_trace_of P trace lent t
  unfolding run_trace_of
  not_taken v e = rw (e, refused_so trace (rooms_of lent) v)

  pub taken : verdict_of (judged_trace trace (rooms_of lent)) ≡ accepted → {r : Ran} {after : Runs} → trace_outcome r after ≡ trace_outcome_of P (read_trace trace) lent t
      → trace_outcome r after ≡ run_trace_of P trace lent t
  unfolding run_trace_of
  taken v e = e ∙ sym (ap (λ (said : Trace). trace_outcome_of P said lent t) (taken_so trace (rooms_of lent) v).same)
