-- A run that has come to a place: what is left of the trace, run from here, gives the outcome of the whole.
-- Assumes nothing.
use Prim.Native.Nat.{ℕ, ◌+◌, ◌-◌, ◌*◌, ◌^◌, ◌≤◌, ◌<◌}
use mathlib.Core.Path.{◌≡◌, refl, sym, ap, subst, ◌∙◌}
use mathlib.Core.List.{List, [], ◌∷◌}
use native.Mathlib.Nat.{add-zero}
use native.Mathlib.Omega.{arith}
use lib.ListN.{length}
use Rattle.little_endian.specs.Numbers.{bytes_of}
use Rattle.little_endian.proofs.Numbers.{bytes_length, put_length}
use Rattle.cost.specs.Branch.{answer_number}
use Rattle.profile.specs.declared.Profile.{Profile}
use Rattle.state.specs.declared.Retirement.{Retirement}
use Rattle.state.specs.declared.Event.{Event}
use Rattle.state.specs.declared.Event.TheVariants.{Retired}
use Rattle.state.specs.declared.Oep060Timing.{Oep060Timing}
use Rattle.state.specs.declared.Stepped.{Stepped}
use Rattle.state.specs.Timing.{seen_of}
use Rattle.step.specs.Boards.{stepped_of, after_of}
use Rattle.refusals.specs.declared.Refusal.{Refusal}
use Rattle.refusals.specs.Runs.{Runs}
use Rattle.std.specs.Prelude.{Err}
use Rattle.records.specs.Record.{got, ended, read_at}
use Rattle.records.specs.Trace.{ahead, read_from}
use Rattle.records.specs.Judged.{Fits, FitsAnswers}
use Rattle.records.proofs.Walking.{got_within, from_end, from_bad, from_got}
use Rattle.records.proofs.Judging.{fits_ahead, fits_room, tells_ahead, tells_room}
use Rattle.trace.specs.Run.{trace_outcome, ran_at, trace_outcome_of}
use Rattle.trace.proofs.TraceRunning.{put_next, outcome_from, run_none, run_end, run_cost, run_quiet}
use Rattle.state.specs.Events.{count_of}

pub record Going (P : Profile) (trace : List ℕ) (lent₀ : Runs) (t₀ : Oep060Timing) (lent : Runs) (at k sum : ℕ) (t : Oep060Timing) : Type 0 where
  pub inside : at ≤ length trace
  -- a retirement takes 20 bytes
  pub few : 20 * k ≤ at
  pub same : length lent.costs ≡ length lent₀.costs
  pub same_answers : length lent.answers ≡ length lent₀.answers
  pub small : sum ≤ k * 4294967295
  pub fits : Fits k (length lent.costs) (read_from trace at)
  pub tells : FitsAnswers k (length lent.answers) (read_from trace at)
  pub leads : outcome_from P lent k sum t (read_from trace at) ≡ trace_outcome_of P (read_from trace 0) lent₀ t₀

pub going_start : (P : Profile) (trace : List ℕ) (lent : Runs) (t : Oep060Timing) {u : Oep060Timing} → u ≡ seen_of t → Fits 0 (length lent.costs) (read_from trace 0) → FitsAnswers 0 (length lent.answers) (read_from trace 0)
    → Going P trace lent t lent 0 0 0 u
going_start P trace lent t e f a =
    record {
      inside = omega arith;
      few = omega arith;
      same = refl;
      same_answers = refl;
      small = omega arith;
      fits = f;
      tells = a;
      leads = rw e (run_none P (read_from trace 0) lent t f);
    }

module _ {P : Profile} {trace : List ℕ} {lent₀ : Runs} {t₀ : Oep060Timing} {lent : Runs} {at k sum : ℕ} {t : Oep060Timing} (g : Going P trace lent₀ t₀ lent at k sum t) where
  pub going_end : read_at trace at ≡ ended → trace_outcome (ran_at k sum t) lent ≡ trace_outcome_of P (read_from trace 0) lent₀ t₀
  going_end q = sym (run_end P lent k sum t) ∙ sym (ap (outcome_from P lent k sum t) (from_end trace at q)) ∙ g.leads

  -- so the total fits 64 bits: a trace of 16,777,216 bytes has 838,860 retirements at most
  pub going_total : length trace ≤ 16777216 → {n : ℕ} → n < 2 ^ 32 → sum + n < 2 ^ 64
  going_total h l = omega (arith, g.few, g.inside, g.small)

  pub going_bad : (refusal : Refusal) → read_at trace at ≡ Err refusal → ⊥
  going_bad refusal q = subst (Fits k (length lent.costs)) (from_bad trace at refusal q) g.fits

  module _ (e : Event) (next : ℕ) (q : read_at trace at ≡ got e next) where
    fits_here : Fits k (length lent.costs) (ahead e (read_from trace next))
    fits_here = subst (Fits k (length lent.costs)) (from_got trace at e next q) g.fits

    fits_next : Fits (k + count_of (e ∷ [])) (length lent.costs) (read_from trace next)
    fits_next = fits_ahead k (length lent.costs) e (read_from trace next) fits_here

    tells_next : FitsAnswers (k + count_of (e ∷ [])) (length lent.answers) (read_from trace next)
    tells_next = tells_ahead k (length lent.answers) e (read_from trace next) (subst (FitsAnswers k (length lent.answers)) (from_got trace at e next q) g.tells)

    pub going_nearer : length trace - next < length trace - at
    going_nearer = let w = got_within trace at e next q in omega arith

    pub going_quiet : count_of (e ∷ []) ≡ 0 → {u : Oep060Timing} → u ≡ after_of P t e → Going P trace lent₀ t₀ lent next k sum u
    going_quiet z h =
        let w = got_within trace at e next q in
        let i = g.few in
        record {
          inside = w.1;
          few = omega arith;
          same = g.same;
          same_answers = g.same_answers;
          small = g.small;
          fits = rw (← add-zero k, ← z) fits_next;
          tells = rw (← add-zero k, ← z) tells_next;
          leads =
              rw h
              (sym (ap (outcome_from P lent k sum t) (from_got trace at e next q) ∙ run_quiet P lent k sum t e (read_from trace next) z fits_here)
              ∙ g.leads);
        }

  module _ {e : Event} {next : ℕ} (q : read_at trace at ≡ got e next) {r : Retirement} (told : e ≡ Retired r) where
    retired : read_at trace at ≡ got (Retired r) next
    retired = q ∙ ap (λ (x : Event). got x next) told

    pub going_room : (k * 4 + 4 ≤ length lent.costs) × (k < length lent.answers)
    going_room =
        let f = fits_room (k + 1) (length lent.costs) (read_from trace next) (fits_next (Retired r) next retired) in
        let a = tells_room (k + 1) (length lent.answers) (read_from trace next) (tells_next (Retired r) next retired) in
        (omega (arith, f), omega (arith, a))

    pub going_cost : (d : Stepped) → d ≡ stepped_of P t r → d.cost.0 < 2 ^ 32
        → Going P trace lent₀ t₀ (put_next lent k d.cost.0 (answer_number d.answer)) next (k + 1) (sum + d.cost.0) d.timing
    going_cost d h l =
        let w = got_within trace at (Retired r) next retired in
        let i = g.few in
        let j = g.small in
        let long = put_length lent.costs (k * 4) (bytes_of 4 d.cost.0) (omega (arith, bytes_length 4 d.cost.0, going_room.0)) in
        let told = put_length lent.answers k (answer_number d.answer ∷ []) (omega (arith, going_room.1)) in
        record {
          inside = w.1;
          few = omega arith;
          same = long ∙ g.same;
          same_answers = told ∙ g.same_answers;
          small = omega arith;
          fits = rw long (fits_next (Retired r) next retired);
          tells = rw told (tells_next (Retired r) next retired);
          leads =
              sym
              (ap (outcome_from P lent k sum t) (from_got trace at (Retired r) next retired)
              ∙ run_cost P lent k sum t r (read_from trace next) d h going_room.0 going_room.1 (fits_here (Retired r) next retired))
              ∙ g.leads;
        }
