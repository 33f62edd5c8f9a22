-- Of the whole run that says why: each refusal is given then and only then when its table says so, and a run is accepted when no row is given.
-- Assumes nothing.
use Prim.Native.Nat.{ℕ}
use mathlib.Core.Path.{◌≡◌, refl, sym, ap, subst}
use mathlib.Core.Bool.{Bool, true, false, cond, true≢false}
use mathlib.Core.List.{List}
use lib.Dec.{eqb, ltb}
use lib.ListN.{length}
use borrow.Author.Tests.{eqb-true, lt-ltb, le-ltb, ltb-true, ltb-false}
use Rattle.bits.proofs.Bools.{and_left, and_right}
use Rattle.little_endian.specs.Numbers.{put_at}
use Rattle.profile.specs.declared.Profile.{Profile}
use Rattle.state.specs.declared.Event.{Event}
use Rattle.state.specs.declared.Oep060Timing.{Oep060Timing}
use Rattle.state.specs.Events.{count_of}
use Rattle.refusals.specs.declared.Refusal.{Refusal}
use Rattle.refusals.specs.declared.Refusal.TheVariants.{Room}
use Rattle.refusals.specs.Refusals.{number_of, place_of}
use Rattle.refusals.specs.Refused.{refused_of}
use Rattle.refusals.specs.Runs.{Runs, Rooms, rooms_of}
use Rattle.refusals.specs.Given.{gives, is_accepted}
use Rattle.refusals.proofs.Told.{Told, told_gives}
use Rattle.records.specs.Trace.{Trace, events, refused}
use Rattle.records.specs.Judged.{short, judged_trace}
use Rattle.records.proofs.Choices.{by_test}
use Rattle.records.proofs.Refused.{sound_then, refuses_then, accepts_then, refuses_only, accepts_only}
use Rattle.trace.specs.Run.{trace_outcome, trace_accepted_of, trace_outcome_of}
use Rattle.reasons.specs.ExplainRun.{reasons_of, with_places, judged_why, explain_outcome, explain_outcome_by, explain_trace_of}
use Rattle.reasons.specs.ExplainTable.{RefusesWhy, of_the_run, row7reasons, AcceptsWhy}

module _ (trace : List ℕ) (room : Rooms) (places : ℕ) where
  too_few : (es : List Event) → ltb places (count_of es) ≡ true → (b : Bool) → with_places (length trace) places (cond b (refused (Room (length trace))) (events es)) ≡ refused (Room (length trace))
  too_few es l true = refl
  too_few es l false = rw l

  why_then : {n p : ℕ} → RefusesWhy trace room places n p → Told n p (λ refusal. judged_why trace room places ≡ refused refusal)
  unfolding judged_why judged_trace
  why_then (of_the_run h) =
      let x = refuses_then trace room h in
      record { refusal = x.refusal; number = x.number; place = x.place; so = ap (with_places (length trace) places) x.so }
  why_then (row7reasons {es} size h l) =
      record { refusal = Room (length trace); number = refl; place = refl; so = rw (le-ltb _ _ size, sound_then trace h) (too_few es (lt-ltb _ _ l) (short room (count_of es))) }

  why_accepts : {es : List Event} → AcceptsWhy trace room places es → judged_why trace room places ≡ events es
  unfolding judged_why
  why_accepts a = rw (accepts_then trace room a.run, le-ltb _ _ a.enough_reasons)

  -- only then: what the trace is judged to say, by the table
  abbrev Judged : Trace → Type 0
  Judged (events es) = AcceptsWhy trace room places es
  Judged (refused refusal) = RefusesWhy trace room places (number_of refusal) (place_of refusal)

  judged_so : Judged (judged_why trace room places)
  unfolding judged_why
  judged_so = go (judged_trace trace room) refl
    where
      go : (x : Trace) → judged_trace trace room ≡ x → Judged (with_places (length trace) places x)
      go (events es) q =
          let a = accepts_only trace room q in
          by_test Judged (ltb places (count_of es)) _ _ (λ l. row7reasons a.size a.records (ltb-true _ _ l)) (λ l. record { run = a; enough_reasons = ltb-false _ _ l })
      go (refused refusal) q = of_the_run (refuses_only trace room q)

module _ (P : Profile) (trace : List ℕ) (lent : Runs) (reasons : List ℕ) (t : Oep060Timing) where
  pub explain_accepted : {es : List Event} → AcceptsWhy trace (rooms_of lent) (length reasons) es
      → explain_trace_of P trace lent reasons t ≡ explain_outcome (trace_accepted_of P es lent t) (put_at reasons 0 (reasons_of P t es))
  unfolding explain_trace_of
  explain_accepted h = rw (why_accepts trace (rooms_of lent) (length reasons) h)

  -- an accepted run has the events of a trace that the table accepts
  pub explain_accepted_only : is_accepted (explain_trace_of P trace lent reasons t).outcome.ran.verdict ≡ true → (es : List Event) × AcceptsWhy trace (rooms_of lent) (length reasons) es
  unfolding explain_trace_of
  explain_accepted_only = go (judged_why trace (rooms_of lent) (length reasons)) (judged_so trace (rooms_of lent) (length reasons))
    where
      go : (x : Trace) → Judged trace (rooms_of lent) (length reasons) x → is_accepted (trace_outcome_of P x lent t).ran.verdict ≡ true → (es : List Event) × AcceptsWhy trace (rooms_of lent) (length reasons) es
      go (events es) j h = (es, j)
      go (refused refusal) j h = absurd (true≢false (sym h))

  -- a refused run keeps what it was given
  pub explain_keeps : is_accepted (explain_trace_of P trace lent reasons t).outcome.ran.verdict ≡ false
      → (refusal : Refusal) × (explain_trace_of P trace lent reasons t ≡ explain_outcome (trace_outcome (refused_of refusal t) lent) reasons)
  unfolding explain_trace_of
  explain_keeps = go (judged_why trace (rooms_of lent) (length reasons))
    where
      go : (x : Trace) → is_accepted (trace_outcome_of P x lent t).ran.verdict ≡ false
          → (refusal : Refusal) × (explain_outcome_by P x lent reasons t ≡ explain_outcome (trace_outcome (refused_of refusal t) lent) reasons)
      go (events es) h = absurd (true≢false h)
      go (refused refusal) h = (refusal, refl)

  pub explain_gives : {n p : ℕ} → RefusesWhy trace (rooms_of lent) (length reasons) n p → gives n p (explain_trace_of P trace lent reasons t).outcome.ran.verdict ≡ true
  unfolding explain_trace_of
  explain_gives h =
      let x = why_then trace (rooms_of lent) (length reasons) h in
      told_gives (record { refusal = x.refusal; number = x.number; place = x.place; so = ap (λ (said : Trace). (trace_outcome_of P said lent t).ran.verdict) x.so })

  pub explain_gives_only : {n p : ℕ} → gives n p (explain_trace_of P trace lent reasons t).outcome.ran.verdict ≡ true → RefusesWhy trace (rooms_of lent) (length reasons) n p
  unfolding explain_trace_of
  explain_gives_only {n} {p} = go (judged_why trace (rooms_of lent) (length reasons)) (judged_so trace (rooms_of lent) (length reasons))
    where
      go : (x : Trace) → Judged trace (rooms_of lent) (length reasons) x → gives n p (trace_outcome_of P x lent t).ran.verdict ≡ true → RefusesWhy trace (rooms_of lent) (length reasons) n p
      go (events es) j h = absurd (true≢false (sym h))
      go (refused refusal) j h =
          let a = eqb (number_of refusal) n in
          let b = eqb (place_of refusal) p in
          subst (λ (m : ℕ). RefusesWhy trace (rooms_of lent) (length reasons) m p) (eqb-true _ _ (and_left a b h))
          (subst (RefusesWhy trace (rooms_of lent) (length reasons) (number_of refusal)) (eqb-true _ _ (and_right a b h)) j)
