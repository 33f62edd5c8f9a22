-- Which verdict a trace has with three lent runs: as with two, of which the second is as long as the shorter of two. And the outcome by it.
-- Assumes nothing.
use Prim.Native.Nat.{ℕ, ◌*◌, ◌≤◌, min}
use mathlib.Core.Path.{◌≡◌, refl, sym, ap, ◌∙◌}
use mathlib.Core.Bool.{Bool, true, false, cond, ◌||◌}
use mathlib.Core.List.{List}
use native.Mathlib.Omega.{arith}
use lib.Dec.{ltb}
use lib.ListN.{length}
use borrow.Author.Tests.{lt-ltb, le-ltb, ltb-true, ltb-false}
use Rattle.profile.specs.declared.Profile.{Profile}
use Rattle.state.specs.declared.Oep060Timing.{Oep060Timing}
use Rattle.state.specs.Events.{count_of}
use Rattle.refusals.specs.declared.Refusal.{Refusal}
use Rattle.refusals.specs.declared.Refusal.TheVariants.{Oversized, Room}
use Rattle.std.specs.Prelude.{Err}
use Rattle.refusals.specs.Verdict.{accepted}
use Rattle.refusals.specs.declared.outcome.Ran.{Ran}
use Rattle.refusals.specs.Refused.{refused_of}
use Rattle.refusals.specs.Runs.{Runs, rooms, rooms_of}
use Rattle.records.specs.Trace.{Trace, events, refused, read_trace}
use Rattle.records.specs.Judged.{with_room, judged_trace, verdict_of, FitsAnswers}
use Rattle.records.proofs.Refused.{refused_so, taken_so}
use Rattle.trace.specs.Run.{trace_outcome}
use Rattle.reasons.specs.ExplainRun.{with_places, judged_why, ExplainOutcome, explain_outcome, explain_outcome_by, explain_trace_of}

min_ltb : (a b n : ℕ) → ltb (min a b) n ≡ (ltb a n || ltb b n)
min_ltb a b n = go (ltb a n) (ltb b n) refl refl
  where
    go : (y z : Bool) → ltb a n ≡ y → ltb b n ≡ z → ltb (min a b) n ≡ (y || z)
    go true z q r = lt-ltb _ _ (omega (arith, ltb-true a n q))
    go false true q r = lt-ltb _ _ (omega (arith, ltb-true b n r))
    go false false q r = le-ltb _ _ (omega (arith, ltb-false a n q, ltb-false b n r))

by_places : (size a b : ℕ) (c : ℕ) (said : Trace) → with_room size (rooms c (min a b)) said ≡ with_places size b (with_room size (rooms c a) said)
by_places size a b c (events es) = rw (min_ltb a b (count_of es)) (go (ltb c (4 * count_of es)) (ltb a (count_of es)))
  where
    go : (x y : Bool) → cond (x || (y || ltb b (count_of es))) (refused (Room size)) (events es) ≡ with_places size b (cond (x || y) (refused (Room size)) (events es))
    go true y = refl
    go false true = refl
    go false false = refl
by_places size a b c (refused refusal) = refl

pub judged_why_lem : (trace : List ℕ) (a b c : ℕ) → judged_trace trace (rooms c (min a b)) ≡ judged_why trace (rooms c a) b
unfolding judged_trace judged_why
judged_why_lem trace a b c = go (ltb 16777216 (length trace))
  where
    go : (x : Bool) → cond x (refused Oversized) (with_room (length trace) (rooms c (min a b)) (read_trace trace))
        ≡ with_places (length trace) b (cond x (refused Oversized) (with_room (length trace) (rooms c a) (read_trace trace)))
    go true = refl
    go false = by_places (length trace) a b c (read_trace trace)

tells_longer : (k : ℕ) {m n : ℕ} (said : Trace) → m ≤ n → FitsAnswers k m said → FitsAnswers k n said
tells_longer k (events es) l f = omega (arith, l, f)
tells_longer k (refused refusal) l f = f

pub tells_both : (trace : List ℕ) (a b : ℕ) {m : ℕ} → m ≡ min a b → FitsAnswers 0 m (read_trace trace) → FitsAnswers 0 a (read_trace trace) × FitsAnswers 0 b (read_trace trace)
tells_both trace a b e f =
    (tells_longer 0 (read_trace trace) (omega (arith, e)) f, tells_longer 0 (read_trace trace) (omega (arith, e)) f)

module _ (P : Profile) (trace : List ℕ) (lent : Runs) (reasons : List ℕ) (t : Oep060Timing) {m : ℕ} (e : m ≡ min (length lent.answers) (length reasons)) where
  same_judged : judged_trace trace (rooms (length lent.costs) m) ≡ judged_why trace (rooms_of lent) (length reasons)
  same_judged = ap (λ (n : ℕ). judged_trace trace (rooms (length lent.costs) n)) e ∙ judged_why_lem trace _ _ _

  pub not_explained : {refusal : Refusal} → verdict_of (judged_trace trace (rooms (length lent.costs) m)) ≡ Err refusal → {r : Ran} → r ≡ refused_of refusal t
      → explain_outcome (trace_outcome r lent) reasons ≡ explain_trace_of P trace lent reasons t
  unfolding explain_trace_of
  not_explained v q = rw (q, sym same_judged ∙ refused_so trace (rooms (length lent.costs) m) v)

  pub explained : verdict_of (judged_trace trace (rooms (length lent.costs) m)) ≡ accepted → {o : ExplainOutcome} → o ≡ explain_outcome_by P (read_trace trace) lent reasons t → o ≡ explain_trace_of P trace lent reasons t
  unfolding explain_trace_of
  explained v q = q ∙ ap (λ (said : Trace). explain_outcome_by P said lent reasons t) (sym (taken_so trace (rooms (length lent.costs) m) v).same ∙ same_judged)
