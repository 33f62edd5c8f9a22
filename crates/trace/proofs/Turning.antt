-- What the turn of one record does to a run that goes on.
-- Assumes nothing.
use Prim.Native.Nat.{ℕ, ◌+◌, ◌-◌, ◌*◌, ◌^◌, ◌≤◌, ◌<◌}
use mathlib.Core.Path.{◌≡◌, refl, sym, ap, subst}
use mathlib.Core.List.{List, [], ◌∷◌}
use native.Mathlib.Omega.{arith}
use lib.ListN.{length}
use Rattle.profile.specs.declared.Profile.{Profile}
use Rattle.state.specs.declared.Event.{Event}
use Rattle.state.specs.declared.Event.TheVariants.{Retired, Broken, ClearedAll, ClearedUser}
use Rattle.state.specs.declared.Oep060Timing.{Oep060Timing}
use Rattle.state.specs.Timing.{stepped_by, timing_at}
use Rattle.step.specs.Boards.{stepped_of, after_of}
use Rattle.in_place.specs.Lent.{Lent, state_at, lent_of}
use Rattle.in_place.proofs.NumbersHeld.{window_held}
use Rattle.refusals.specs.Runs.{Runs}
use Rattle.std.specs.Prelude.{Err, None, Ok, Some}
use Rattle.records.specs.Record.{Read, got, read_at}
use Rattle.records.proofs.RecordRows.{Explained, read_explained}
use Rattle.trace.specs.TraceTurns.{Turned, turned, turn_for, turn_of}
use Rattle.trace.proofs.TraceRunning.{put_next}
use Rattle.trace.proofs.Going.{Going, going_bad, going_nearer, going_quiet, going_room, going_cost}
use Rattle.state.specs.Events.{count_of}
use Rattle.in_place.specs.Retire.{event_at_of}
use Rattle.in_place.specs.declared.events.Paid.{Paid}
use Rattle.cost.specs.Branch.{answer_number}

pub timing_held : (t : Oep060Timing) → state_at (lent_of t) ≡ t
timing_held t = ap (timing_at t.cache.tags t.cache.state) (window_held t.window)

module _ {P : Profile} {trace : List ℕ} {lent₀ : Runs} {t₀ : Oep060Timing} {runs : Runs} {at k sum : ℕ} (l : Lent) (g : Going P trace lent₀ t₀ runs at k sum (state_at l)) where
  pub record Gone (x : Turned) : Type 0 where
    pub nearer : length trace - x.turn.next < length trace - at
    pub quiet : x.turn.paid ≡ None → Going P trace lent₀ t₀ runs x.turn.next k sum (state_at x.lent)
    pub room : {y : Paid} → x.turn.paid ≡ Some y → (k * 4 + 4 ≤ length runs.costs) × (k < length runs.answers)
    pub paid : {y : Paid} → x.turn.paid ≡ Some y → y.cost.0 < 2 ^ 32
        → Going P trace lent₀ t₀ (put_next runs k y.cost.0 y.answer) x.turn.next (k + 1) (sum + y.cost.0) (state_at x.lent)

  gone_quiet : (e : Event) (next : ℕ) → read_at trace at ≡ got e next → count_of (e ∷ []) ≡ 0
      → Gone (turned (record { next = next; paid = None }) (event_at_of P l e))
  gone_quiet e next q z =
      record {
        nearer = going_nearer g e next q;
        quiet = λ h. going_quiet g e next q z (timing_held (after_of P (state_at l) e));
        room = λ h. cc;
        paid = λ h. cc;
      }

  gone_got : (e : Event) (next : ℕ) → read_at trace at ≡ got e next → Gone (turn_for P l next e)
  unfolding stepped_by
  gone_got (Retired r) next q =
      let s = stepped_of P (state_at l) r in
      record {
        nearer = going_nearer g (Retired r) next q;
        quiet = λ h. cc;
        room = λ h. going_room g q refl;
        paid = λ {y} h small.
            let same : record { cost = s.cost; answer = answer_number s.answer } ≡ y = cc in
            rw (← same, timing_held (after_of P (state_at l) (Retired r))) (going_cost g q refl s refl (rw (← same) at small));
      }
  gone_got Broken next q = gone_quiet Broken next q refl
  gone_got ClearedAll next q = gone_quiet ClearedAll next q refl
  gone_got ClearedUser next q = gone_quiet ClearedUser next q refl

  -- within the trace there is a record, and it is sound
  pub turn_gone : at < length trace → {x : Turned} → x ≡ turn_of P at l (read_at trace at) → Gone x
  turn_gone here {x} = go (read_at trace at) refl
    where
      go : (r : Read) → read_at trace at ≡ r → x ≡ turn_of P at l r → Gone x
      go (Ok None) q p = absurd (omega (arith, subst (Explained trace at) q (read_explained trace at)))
      go (Err refusal) q p = absurd (going_bad g refusal q)
      go (Ok (Some (e, next))) q p = subst Gone (sym p) (gone_got e next q)
