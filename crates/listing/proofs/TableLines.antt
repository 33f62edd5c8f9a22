-- Writing the lines, come to a place of the trace: what is left of them, written from here, gives all of them.
-- Assumes nothing.
use Prim.Native.Nat.{ℕ, ◌+◌, ◌*◌, ◌≤◌}
use mathlib.Core.Path.{◌≡◌, refl, sym, ap, subst, ◌∙◌}
use mathlib.Core.List.{List, [], ◌∷◌, ◌++◌}
use native.Mathlib.Nat.{add-zero}
use native.Mathlib.Omega.{arith}
use lib.ListN.{length, length-append}
use Rattle.little_endian.specs.Numbers.{number_at}
use Rattle.text.specs.Written.{written, written_of}
use Rattle.text.proofs.Writing.{written_none, wrote, wrote_then}
use Rattle.state.specs.declared.Retirement.{Retirement}
use Rattle.state.specs.declared.Event.{Event}
use Rattle.state.specs.declared.Event.TheVariants.{Retired, Broken, ClearedAll, ClearedUser}
use Rattle.refusals.specs.declared.Refusal.{Refusal}
use Rattle.std.specs.Prelude.{Err}
use Rattle.records.specs.Record.{got, ended, read_at}
use Rattle.records.specs.Trace.{Trace, events, refused, ahead, read_from}
use Rattle.records.specs.Judged.{Fits}
use Rattle.records.proofs.Walking.{from_end, from_bad, from_got}
use Rattle.records.proofs.Judging.{fits_ahead, fits_room}
use Rattle.listing.specs.Lines.{retirement_line}
use Rattle.listing.specs.Printed.{lines_read, lines_of}
use Rattle.state.specs.Events.{count_of}

no_line : (k : ℕ) (bytes : List ℕ) (e : Event) (es : List Event) → count_of (e ∷ []) ≡ 0 → lines_read k bytes (e ∷ es) ≡ lines_read k bytes es
no_line k bytes (Retired r) es z = absurd (omega arith)
no_line k bytes Broken es z = refl
no_line k bytes ClearedAll es z = refl
no_line k bytes ClearedUser es z = refl

-- an event that is no retirement
pub none_counted : (e : Event) → ((r : Retirement) → e ≡ Retired r → ⊥) → count_of (e ∷ []) ≡ 0
none_counted (Retired r) f = absurd (f r refl)
none_counted Broken f = refl
none_counted ClearedAll f = refl
none_counted ClearedUser f = refl

quiet : (k room : ℕ) (bytes : List ℕ) (e : Event) (said : Trace) → count_of (e ∷ []) ≡ 0 → Fits k room (ahead e said)
    → lines_of k bytes (ahead e said) ≡ lines_of k bytes said
quiet k room bytes e (events es) z f = no_line k bytes e es z
quiet k room bytes e (refused refusal) z f = absurd f

line : (k room : ℕ) (bytes : List ℕ) (r : Retirement) (said : Trace) → Fits k room (ahead (Retired r) said)
    → lines_of k bytes (ahead (Retired r) said) ≡ retirement_line k r.op (number_at 4 bytes (4 * k)) ++ lines_of (k + 1) bytes said
line k room bytes r (events es) f = refl
line k room bytes r (refused refusal) f = absurd f

pub record Going (trace bytes out₀ : List ℕ) (start : ℕ) (out : List ℕ) (place at k : ℕ) : Type 0 where
  pub same : length out ≡ length out₀
  pub room : place + length (lines_of k bytes (read_from trace at)) ≤ length out₀
  pub fits : Fits k (length bytes) (read_from trace at)
  pub leads : written_of out place (lines_of k bytes (read_from trace at)) ≡ written_of out₀ start (lines_of 0 bytes (read_from trace 0))

module _ {trace bytes out₀ : List ℕ} {start : ℕ} {out : List ℕ} {place at k : ℕ} (g : Going trace bytes out₀ start out place at k) where
  pub going_end : read_at trace at ≡ ended → written place out ≡ written_of out₀ start (lines_of 0 bytes (read_from trace 0))
  going_end q =
      let e = ap (λ (said : Trace). written_of out place (lines_of k bytes said)) (from_end trace at q) in
      sym (written_none out place) ∙ sym e ∙ g.leads

  pub going_bad : (refusal : Refusal) → read_at trace at ≡ Err refusal → ⊥
  going_bad refusal q = subst (Fits k (length bytes)) (from_bad trace at refusal q) g.fits

  module _ (e : Event) (next : ℕ) (q : read_at trace at ≡ got e next) where
    here : read_from trace at ≡ ahead e (read_from trace next)
    here = from_got trace at e next q

    fits_here : Fits k (length bytes) (ahead e (read_from trace next))
    fits_here = subst (Fits k (length bytes)) here g.fits

    fits_next : Fits (k + count_of (e ∷ [])) (length bytes) (read_from trace next)
    fits_next = fits_ahead k (length bytes) e (read_from trace next) fits_here

    pub going_quiet : ((r : Retirement) → e ≡ Retired r → ⊥) → Going trace bytes out₀ start out place next k
    going_quiet f =
        let z = none_counted e f in
        let same_lines = ap (lines_of k bytes) here ∙ quiet k (length bytes) bytes e (read_from trace next) z fits_here in
        record {
          same = g.same;
          room = rw (← same_lines) g.room;
          fits = rw (← add-zero k, ← z) fits_next;
          leads = rw (← same_lines) g.leads;
        }

  module _ {r : Retirement} {next : ℕ} (q : read_at trace at ≡ got (Retired r) next) where
    pub going_cost : 4 * k + 4 ≤ length bytes
    going_cost = omega (arith, fits_room (k + 1) (length bytes) (read_from trace next) (fits_next (Retired r) next q))

    this : List ℕ
    this = retirement_line k r.op (number_at 4 bytes (4 * k))

    split : lines_of k bytes (read_from trace at) ≡ this ++ lines_of (k + 1) bytes (read_from trace next)
    unfolding this
    split = ap (lines_of k bytes) (here (Retired r) next q) ∙ line k (length bytes) bytes r (read_from trace next) (fits_here (Retired r) next q)

    room_here : place + length this + length (lines_of (k + 1) bytes (read_from trace next)) ≤ length out₀
    room_here = omega (arith, g.room, ap length split, length-append this (lines_of (k + 1) bytes (read_from trace next)))

    pub going_room : place + length (retirement_line k r.op (number_at 4 bytes (4 * k))) ≤ length out
    unfolding this
    going_room = omega (arith, g.same, room_here)

    pub going_line : {place' : ℕ} {out' : List ℕ} → written place' out' ≡ written_of out place (retirement_line k r.op (number_at 4 bytes (4 * k)))
        → Going trace bytes out₀ start out' place' next (k + 1)
    unfolding this
    going_line {place'} {out'} d =
        let w = wrote out place this going_room d in
        let p = w.place in
        record {
          same = w.same ∙ g.same;
          room = omega (arith, room_here);
          fits = fits_next (Retired r) next q;
          leads = wrote_then w (lines_of (k + 1) bytes (read_from trace next)) (omega (arith, g.same, room_here)) ∙ rw (← split) g.leads;
        }
