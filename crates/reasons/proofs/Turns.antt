-- One event of a run that says why: what it does to a run that goes on (`Going`), and to its reasons (`Telling`).
-- Assumes nothing.
use Prim.Native.Nat.{ℕ, ◌+◌, ◌*◌, ◌^◌, ◌≤◌, ◌<◌}
use mathlib.Core.Path.{◌≡◌, refl, ap, ◌∙◌}
use mathlib.Core.List.{List, [], ◌∷◌}
use lib.ListN.{length}
use Rattle.std.specs.Prelude.{None, Some}
use Rattle.little_endian.specs.Numbers.{put_at}
use Rattle.cost.specs.Branch.{answer_number}
use Rattle.profile.specs.declared.Profile.{Profile}
use Rattle.state.specs.declared.Retirement.{Retirement}
use Rattle.state.specs.declared.Event.{Event}
use Rattle.state.specs.declared.Event.TheVariants.{Retired, Broken, ClearedAll, ClearedUser}
use Rattle.state.specs.declared.Oep060Timing.{Oep060Timing}
use Rattle.state.specs.declared.Stepped.{Stepped}
use Rattle.state.specs.Events.{count_of}
use Rattle.state.specs.Timing.{stepped_by}
use Rattle.step.specs.Boards.{stepped_of, after_of}
use Rattle.in_place.specs.Lent.{Lent, state_at}
use Rattle.in_place.specs.Retire.{event_at_of}
use Rattle.refusals.specs.Runs.{Runs}
use Rattle.records.specs.Record.{got, read_at}
use Rattle.trace.proofs.TraceRunning.{put_next}
use Rattle.trace.proofs.Going.{Going, going_quiet, going_room, going_cost}
use Rattle.trace.proofs.Turning.{timing_held}
use Rattle.reasons.specs.declared.explain.Explained.{Explained}
use Rattle.reasons.specs.Reasons.{reason_number}
use Rattle.reasons.specs.Explain.{explained_of, met_of, told_for}
use Rattle.reasons.proofs.Telling.{Telling, telling_quiet, telling_room, telling_one}

module _ (P : Profile) (l : Lent) where
  -- what is not told is no retirement
  none_told : (e : Event) → told_for P l e ≡ None → count_of (e ∷ []) ≡ 0
  none_told (Retired r) h = cc
  none_told Broken h = refl
  none_told ClearedAll h = refl
  none_told ClearedUser h = refl

  -- what is told is a retirement's
  record Told (e : Event) (x : Explained) : Type 0 where
    r : Retirement
    is : e ≡ Retired r
    so : x ≡ explained_of (met_of P l r)

  one_told : (e : Event) {x : Explained} → told_for P l e ≡ Some x → Told e x
  one_told (Retired r) h = record { r = r; is = refl; so = cc }
  one_told Broken h = cc
  one_told ClearedAll h = cc
  one_told ClearedUser h = cc

-- a run that goes on, with its reasons
pub record Both (P : Profile) (trace : List ℕ) (lent₀ : Runs) (reasons₀ : List ℕ) (t₀ : Oep060Timing) (runs : Runs)
    (reasons : List ℕ) (at k sum : ℕ) (t : Oep060Timing) : Type 0 where
  pub going : Going P trace lent₀ t₀ runs at k sum t
  pub telling : Telling P trace reasons₀ t₀ reasons at k t

module _ {P : Profile} {trace : List ℕ} {lent₀ : Runs} {reasons₀ : List ℕ} {t₀ : Oep060Timing} {runs : Runs}
    {reasons : List ℕ} {at k sum : ℕ} (l : Lent)
    (b : Both P trace lent₀ reasons₀ t₀ runs reasons at k sum (state_at l))
    (e : Event) (next : ℕ) (q : read_at trace at ≡ got e next) where
  left : {m : Lent} → m ≡ event_at_of P l e → state_at m ≡ after_of P (state_at l) e
  left h = ap state_at h ∙ timing_held (after_of P (state_at l) e)

  pub both_quiet : told_for P l e ≡ None → {m : Lent} → m ≡ event_at_of P l e
      → Both P trace lent₀ reasons₀ t₀ runs reasons next k sum (state_at m)
  both_quiet h f =
      let z : count_of (e ∷ []) ≡ 0 = none_told P l e h in
      record {
        going = going_quiet b.going e next q z (left f);
        telling = rw (left f) (telling_quiet b.telling e next q z);
      }

  -- what a retirement costs and why is put behind the others
  retired_told : (r : Retirement) → e ≡ Retired r → {x : Explained} → x ≡ explained_of (met_of P l r) → {m : Lent}
      → m ≡ event_at_of P l e → x.cost.0 < 2 ^ 32
      → Both P trace lent₀ reasons₀ t₀ (put_next runs k x.cost.0 (answer_number x.answer))
      (put_at reasons k (reason_number x.reason ∷ [])) next (k + 1) (sum + x.cost.0) (state_at m)
  unfolding stepped_by
  retired_told r is {x} so {m} f small =
      let d : Stepped = record { timing = state_at m; cost = x.cost; answer = x.answer } in
      let after : state_at m ≡ after_of P (state_at l) (Retired r) = left f ∙ ap (after_of P (state_at l)) is in
      let s : d ≡ stepped_of P (state_at l) r = rw (after, so) in
      let here : read_at trace at ≡ got (Retired r) next = q ∙ ap (λ (y : Event). got y next) is in
      record {
        going = going_cost b.going q is d s small;
        telling = rw (after, so) (telling_one b.telling r next here);
      }

  module _ {x : Explained} (h : told_for P l e ≡ Some x) where
    pub both_room : (k * 4 + 4 ≤ length runs.costs) × (k < length runs.answers) × (k < length reasons)
    both_room =
        let t : Told P l e x = one_told P l e h in
        let room = going_room b.going q t.is in
        (room.0, room.1, telling_room b.telling t.r next (q ∙ ap (λ (y : Event). got y next) t.is))

    pub both_told : {m : Lent} → m ≡ event_at_of P l e → x.cost.0 < 2 ^ 32
        → Both P trace lent₀ reasons₀ t₀ (put_next runs k x.cost.0 (answer_number x.answer))
        (put_at reasons k (reason_number x.reason ∷ [])) next (k + 1) (sum + x.cost.0) (state_at m)
    both_told f small = let t : Told P l e x = one_told P l e h in retired_told t.r t.is t.so f small
