-- Writing the lines, come to a place of the trace: what is left of them, written from here, gives all of them.
-- Assumes nothing.
use Prim.Native.Nat.{ℕ, ◌+◌, ◌≤◌}
use mathlib.Core.Path.{◌≡◌, refl, sym, ap, ◌∙◌}
use mathlib.Core.List.{List, ◌++◌}
use native.Mathlib.Omega.{arith}
use lib.ListN.{length, length-append}
use Rattle.text.specs.Written.{written, written_of}
use Rattle.text.proofs.Writing.{written_none, wrote, wrote_then}
use Rattle.state.specs.declared.Event.{Event}
use Rattle.refusals.specs.declared.Refusal.{Refusal}
use Rattle.std.specs.Prelude.{Err}
use Rattle.refusals.specs.Verdict.{accepted}
use Rattle.records.specs.Faults.{next_place}
use Rattle.records.specs.Record.{got, ended, kind_of_event, read_at}
use Rattle.records.specs.Trace.{Trace, events, refused, ahead, read_from}
use Rattle.records.specs.Judged.{verdict_of}
use Rattle.records.proofs.Reading.{got_ends}
use Rattle.records.proofs.Walking.{from_end, from_bad, from_got}
use Rattle.showing.specs.Lines.{record_line, lines_from}
use Rattle.showing.specs.Inner.{lines_of}

pub not_both_lem : {refusal : Refusal} → Err refusal ≡ accepted → ⊥
not_both_lem q = let z : ◌≡◌ {A = ℕ} 0 1 = cc in omega arith

sound_rest : (e : Event) (said : Trace) → verdict_of (ahead e said) ≡ accepted → verdict_of said ≡ accepted
sound_rest e (events es) v = refl
sound_rest e (refused refusal) v = v

line : (at : ℕ) (e : Event) (said : Trace) → verdict_of said ≡ accepted → lines_of at (ahead e said) ≡ record_line at e ++ lines_of (next_place at (kind_of_event e)) said
unfolding lines_from
line at e (events es) v = refl
line at e (refused refusal) v = absurd (not_both_lem v)

pub record Going (trace out₀ : List ℕ) (start : ℕ) (out : List ℕ) (place at : ℕ) : Type 0 where
  pub same : length out ≡ length out₀
  pub room : place + length (lines_of at (read_from trace at)) ≤ length out₀
  pub sound : verdict_of (read_from trace at) ≡ accepted
  pub leads : written_of out place (lines_of at (read_from trace at)) ≡ written_of out₀ start (lines_of 0 (read_from trace 0))

module _ {trace out₀ : List ℕ} {start : ℕ} {out : List ℕ} {place at : ℕ} (g : Going trace out₀ start out place at) where
  pub going_end : read_at trace at ≡ ended → written place out ≡ written_of out₀ start (lines_of 0 (read_from trace 0))
  unfolding lines_from
  going_end q =
      let e = ap (λ (said : Trace). written_of out place (lines_of at said)) (from_end trace at q) in
      sym (written_none out place) ∙ sym e ∙ g.leads

  pub going_bad : (refusal : Refusal) → read_at trace at ≡ Err refusal → ⊥
  going_bad refusal q = not_both_lem (sym (ap verdict_of (from_bad trace at refusal q)) ∙ g.sound)

  module _ {e : Event} {next : ℕ} (q : read_at trace at ≡ got e next) where
    here : read_from trace at ≡ ahead e (read_from trace next)
    here = from_got trace at e next q

    sound_next : verdict_of (read_from trace next) ≡ accepted
    sound_next = sound_rest e (read_from trace next) (sym (ap verdict_of here) ∙ g.sound)

    split : lines_of at (read_from trace at) ≡ record_line at e ++ lines_of next (read_from trace next)
    split =
        ap (lines_of at) here ∙ line at e (read_from trace next) sound_next
        ∙ ap (λ (n : ℕ). record_line at e ++ lines_of n (read_from trace next)) (sym (got_ends trace at e next q).0)

    room_here : place + length (record_line at e) + length (lines_of next (read_from trace next)) ≤ length out₀
    room_here = omega (arith, g.room, ap length split, length-append (record_line at e) (lines_of next (read_from trace next)))

    pub going_room : place + length (record_line at e) ≤ length out
    going_room = omega (arith, g.same, room_here)

    pub going_line : {place' : ℕ} {out' : List ℕ} → written place' out' ≡ written_of out place (record_line at e) → Going trace out₀ start out' place' next
    going_line {place'} {out'} d =
        let w = wrote out place (record_line at e) going_room d in
        let p = w.place in
        record {
          same = w.same ∙ g.same;
          room = omega (arith, room_here);
          sound = sound_next;
          leads = wrote_then w (lines_of next (read_from trace next)) (omega (arith, g.same, room_here)) ∙ rw (← split) g.leads;
        }
