-- Text put behind text is both put together.
-- Assumes nothing.
use Prim.Native.Nat.{ℕ, ◌+◌, ◌-◌, ◌≤◌, ◌<◌}
use mathlib.Core.Path.{◌≡◌, refl, sym, ap, ◌∙◌}
use mathlib.Core.List.{List, [], ◌∷◌, ◌++◌, append_assoc}
use native.Mathlib.Nat.{add-zero}
use native.Mathlib.Omega.{arith}
use lib.ListN.{length, take, drop, set, length-set, length-append}
use borrow.Rule.Slice.PartMut.{put_mid}
use lib.Seq.{length-take-le, drop-drop}
use Rattle.little_endian.specs.Numbers.{put_at}
use Rattle.little_endian.proofs.Numbers.{put_length, put_joins}
use Rattle.text.specs.Written.{Written, written, written_of}
use Rattle.little_endian.proofs.Loops.{put_none, set_puts}

pub written_none : (lent : List ℕ) (at : ℕ) → written_of lent at [] ≡ written at lent
unfolding written_of
written_none lent at = rw (add-zero at, put_none lent at)

-- text put over as many of the lent bytes
pub put_whole : (lent : List ℕ) (at : ℕ) (text : List ℕ)
    → written (at + length text) (put_mid at (at + length text - at) lent text) ≡ written_of lent at text
unfolding written_of put_at
put_whole lent at text =
    let k : at + length text - at ≡ length text = omega arith in
    rw (k, drop-drop (length text) at lent, ← append_assoc) refl

-- one more character behind text
pub put_more : (s : List ℕ) (at : ℕ) (text : List ℕ) (x : ℕ) → at + length text < length s
    → set (put_at s at text) (at + length text) x ≡ put_at s at (text ++ x ∷ [])
put_more s at text x h =
    let room : at + length text ≤ length s = omega arith in
    set_puts (put_at s at text) (at + length text) x (omega (arith, put_length s at text room))
    ∙ put_joins s at text room (x ∷ [])

-- what was written so far: the place behind it, the bytes, and that none came or went
pub record Wrote (lent : List ℕ) (at : ℕ) (text : List ℕ) (next : ℕ) (after : List ℕ) : Type 0 where
  pub place : next ≡ at + length text
  pub bytes : after ≡ put_at lent at text
  pub same : length after ≡ length lent

pub wrote_none : (lent : List ℕ) (at : ℕ) → Wrote lent at [] at lent
wrote_none lent at = record { place = omega arith; bytes = sym (put_none lent at); same = refl }

pub wrote : (lent : List ℕ) (at : ℕ) (text : List ℕ) → at + length text ≤ length lent
    → {next : ℕ} {after : List ℕ} → written next after ≡ written_of lent at text → Wrote lent at text next after
unfolding written_of
wrote lent at text room e =
    let b = ap (λ (w : Written). w.bytes) e in
    record { place = ap (λ (w : Written). w.next) e; bytes = b; same = ap length b ∙ put_length lent at text room }

-- where no byte came or went, the text has had room
pub written_within : (lent : List ℕ) (at : ℕ) (text : List ℕ) → at ≤ length lent → {next : ℕ} {after : List ℕ}
    → written next after ≡ written_of lent at text → length after ≡ length lent → at + length text ≤ length lent
unfolding written_of put_at
written_within lent at text h e same =
    omega (
      arith,
      ap length (ap (λ (w : Written). w.bytes) e),
      length-append (take at lent ++ text) (drop (at + length text) lent),
      length-append (take at lent) text,
      length-take-le at lent h,
    )

module _ {lent : List ℕ} {at : ℕ} {text : List ℕ} {next : ℕ} {after : List ℕ} (w : Wrote lent at text next after) where
  pub wrote_whole : written next after ≡ written_of lent at text
  unfolding written_of
  wrote_whole = rw (w.place, w.bytes)

  -- one more character
  pub wrote_one : (x : ℕ) → next < length lent → Wrote lent at (text ++ x ∷ []) (next + 1) (set after next x)
  wrote_one x h =
      let p = w.place in
      record {
        place = omega (arith, length-append text (x ∷ []));
        bytes = rw (p, w.bytes) (put_more lent at text x (omega arith));
        same = length-set after next x ∙ w.same;
      }

  -- one more text
  pub wrote_more : (more : List ℕ) → next + length more ≤ length lent
      → {next' : ℕ} {after' : List ℕ} → written next' after' ≡ written_of after next more → Wrote lent at (text ++ more) next' after'
  wrote_more more room e =
      let p = w.place in
      let v = wrote after next more (omega (arith, w.same)) e in
      record {
        place = omega (arith, v.place, length-append text more);
        bytes = v.bytes ∙ rw (p, w.bytes) (put_joins lent at text (omega arith) more);
        same = v.same ∙ w.same;
      }

  -- what is to be written behind it
  pub wrote_then : (more : List ℕ) → next ≤ length lent → written_of after next more ≡ written_of lent at (text ++ more)
  unfolding written_of
  wrote_then more room =
      let p = w.place in
      let n : next + length more ≡ at + length (text ++ more) = omega (arith, length-append text more) in
      rw (n, w.bytes, p) (rw (put_joins lent at text (omega arith) more))
