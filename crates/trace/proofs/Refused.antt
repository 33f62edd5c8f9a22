-- Of the whole run, what it returns and the lent bytes: each refusal is given then and only then when the table of document 01 says so, and
-- a run is accepted when no row is given.
-- Assumes nothing.
use Prim.Native.Nat.{ℕ}
use mathlib.Core.Path.{◌≡◌, refl, sym, subst}
use mathlib.Core.Bool.{true, false, true≢false}
use mathlib.Core.List.{List}
use Rattle.profile.specs.declared.Profile.{Profile}
use Rattle.state.specs.declared.Event.{Event}
use Rattle.state.specs.declared.Oep060Timing.{Oep060Timing}
use Rattle.refusals.specs.declared.Refusal.{Refusal}
use Rattle.std.specs.Prelude.{Err}
use Rattle.refusals.specs.Refused.{refused_of}
use Rattle.refusals.specs.Runs.{Runs, rooms_of}
use Rattle.records.specs.Trace.{Trace, events, refused}
use Rattle.records.specs.Judged.{judged_trace}
use Rattle.records.specs.TraceTable.{Refuses, Accepts}
use Rattle.records.proofs.Refused.{refuses_then, accepts_then, refuses_only, accepts_only}
use Rattle.trace.specs.Run.{trace_outcome, trace_accepted_of, trace_outcome_of, run_trace_of}
use Rattle.refusals.specs.Refusals.{number_of}
use Rattle.refusals.specs.Given.{gives, is_accepted}
use Rattle.refusals.proofs.Told.{Told, gives_told}

module _ (P : Profile) (trace : List ℕ) (lent : Runs) (t : Oep060Timing) where
  pub run_refused : {n p : ℕ} → Refuses trace (rooms_of lent) n p → Told n p (λ refusal. run_trace_of P trace lent t ≡ trace_outcome (refused_of refusal t) lent)
  unfolding run_trace_of
  run_refused h =
      let x = refuses_then trace (rooms_of lent) h in
      record { refusal = x.refusal; number = x.number; place = x.place; so = rw x.so }

  pub run_accepted : {es : List Event} → Accepts trace (rooms_of lent) es → run_trace_of P trace lent t ≡ trace_accepted_of P es lent t
  unfolding run_trace_of
  run_accepted h = rw (accepts_then trace (rooms_of lent) h)

  by_refusal : {refusal : Refusal} (x : Trace) → (trace_outcome_of P x lent t).ran.verdict ≡ Err refusal → x ≡ refused refusal
  by_refusal (events es) h = cc
  by_refusal (refused other) h = cc

  pub run_refused_only : {n p : ℕ} → gives n p (run_trace_of P trace lent t).ran.verdict ≡ true → Refuses trace (rooms_of lent) n p
  unfolding run_trace_of
  run_refused_only {n} {p} h =
      let x = gives_told (run_trace_of P trace lent t).ran.verdict h in
      subst (λ (m : ℕ). Refuses trace (rooms_of lent) m p) x.number
      (subst (Refuses trace (rooms_of lent) (number_of x.refusal)) x.place (refuses_only trace (rooms_of lent) (by_refusal (judged_trace trace (rooms_of lent)) x.so)))

  -- a refused run keeps what it was given
  pub run_keeps : is_accepted (run_trace_of P trace lent t).ran.verdict ≡ false → (refusal : Refusal) × (run_trace_of P trace lent t ≡ trace_outcome (refused_of refusal t) lent)
  unfolding run_trace_of
  run_keeps = go (judged_trace trace (rooms_of lent))
    where
      go : (x : Trace) → is_accepted (trace_outcome_of P x lent t).ran.verdict ≡ false → (refusal : Refusal) × (trace_outcome_of P x lent t ≡ trace_outcome (refused_of refusal t) lent)
      go (events es) h = absurd (true≢false h)
      go (refused refusal) h = (refusal, refl)

  -- an accepted run has the events of a trace that the table accepts
  pub run_accepted_only : is_accepted (run_trace_of P trace lent t).ran.verdict ≡ true → (es : List Event) × Accepts trace (rooms_of lent) es
  unfolding run_trace_of
  run_accepted_only = go (judged_trace trace (rooms_of lent)) refl
    where
      go : (x : Trace) → judged_trace trace (rooms_of lent) ≡ x → is_accepted (trace_outcome_of P x lent t).ran.verdict ≡ true → (es : List Event) × Accepts trace (rooms_of lent) es
      go (events es) q h = (es, accepts_only trace (rooms_of lent) q)
      go (refused refusal) q h = absurd (true≢false (sym h))
