-- A whole retirement: what is known of its bytes, and so what is read at its place; and its length and kind as one number.
-- Assumes nothing.
use Prim.Native.Nat.{ℕ, ◌+◌, ◌≤◌}
use mathlib.Core.Path.{◌≡◌, refl, ap, ◌∙◌}
use mathlib.Core.Bool.{Bool, true, false, not, ◌&&◌}
use mathlib.Core.List.{List}
use native.Mathlib.Omega.{arith}
use lib.Dec.{eqb, ltb}
use lib.ListN.{length}
use borrow.Author.Tests.{le-ltb, ltb-false, eq-eqb, eqb-true, eqb-false, not-true}
use Rattle.bits.proofs.Bools.{and_left, and_right}
use Rattle.little_endian.specs.Numbers.{number_at, Below}
use Rattle.little_endian.proofs.Numbers.{number_small, number_halves}
use Rattle.state.specs.declared.Event.TheVariants.{Retired}
use Rattle.refusals.specs.declared.Refusal.TheVariants.{Flag}
use Rattle.records.specs.declared.kinds.Kind.TheVariants.{Retirement}
use Rattle.records.specs.Faults.{high_flag}
use Rattle.records.specs.Record.{got, whole_at, sound_at, read_at, Unrefused}
use Rattle.records.specs.Layout.{length_at, kind_at, retirement_at}
use Rattle.records.proofs.Reading.{read_kind, record_flag, record_whole}

module _ (trace : List ℕ) (at : ℕ) where
  pub record Wholly : Type 0 where
    pub there : at + 20 ≤ length trace
    pub long : length_at trace at ≡ 16
    pub kind : kind_at trace at ≡ 1

  pub wholly : whole_at trace at ≡ true → Wholly
  wholly h =
      let first = not (ltb (length trace) (at + 4 + 16)) in
      let second = eqb (length_at trace at) 16 in
      let third = eqb (kind_at trace at) 1 in
      let two = and_left (first && second) third h in
      let cut = ltb-false (length trace) (at + 4 + 16) (not-true (ltb (length trace) (at + 4 + 16)) (and_left first second two)) in
      record {
        there = omega (arith, cut);
        long = eqb-true (length_at trace at) 16 (and_right first second two);
        kind = eqb-true (kind_at trace at) 1 (and_right (first && second) third h);
      }

  refuted : (b : Bool) → (b ≡ true → ⊥) → false ≡ b
  refuted true h = absurd (h refl)
  refuted false h = refl

  pub whole_not : (Wholly → ⊥) → false ≡ whole_at trace at
  whole_not h = refuted (whole_at trace at) (λ (e : whole_at trace at ≡ true). h (wholly e))

  -- length 16 and kind 1 are one number
  pub head_is_lem : Below 256 trace → at + 20 ≤ length trace → eqb (number_at 4 trace at) 65552 ≡ whole_at trace at
  head_is_lem b there = go (eqb (number_at 4 trace at) 65552) refl
    where
      go : (t : Bool) → eqb (number_at 4 trace at) 65552 ≡ t → t ≡ whole_at trace at
      go true e =
          let n = eqb-true (number_at 4 trace at) 65552 e in
          let h = number_halves trace at in
          let s = number_small 2 trace at b in
          let long : length_at trace at ≡ 16 = omega arith in
          let kind : kind_at trace at ≡ 1 = omega arith in
          simp (le-ltb (length trace) (at + 4 + 16) (omega arith), eq-eqb (length_at trace at) 16 long, eq-eqb (kind_at trace at) 1 kind)
      go false e = whole_not (λ (w : Wholly). eqb-false (number_at 4 trace at) 65552 e (omega (arith, number_halves trace at, w.long, w.kind)))

  -- so what is read there is the retirement, where its flags are low
  low_got : Wholly → high_flag trace at Retirement ≡ false → read_at trace at ≡ got (Retired (retirement_at trace at)) (at + 20)
  low_got w low =
      let room = w.there in
      read_kind trace at Retirement (omega arith) w.kind ∙ record_whole trace at Retirement w.long (omega arith) low
      ∙ ap (got (Retired (retirement_at trace at))) (omega arith)

  pub sound_got : sound_at trace at ≡ true → read_at trace at ≡ got (Retired (retirement_at trace at)) (at + 20)
  sound_got h =
      let low = not (high_flag trace at Retirement) in
      low_got (wholly (and_left (whole_at trace at) low h)) (not-true (high_flag trace at Retirement) (and_right (whole_at trace at) low h))

  -- and where no refusal is read there
  pub whole_got : whole_at trace at ≡ true → Unrefused trace at → read_at trace at ≡ got (Retired (retirement_at trace at)) (at + 20)
  whole_got h taken = go (high_flag trace at Retirement) refl
    where
      w : Wholly
      w = wholly h

      go : (t : Bool) → high_flag trace at Retirement ≡ t → read_at trace at ≡ got (Retired (retirement_at trace at)) (at + 20)
      go true e = let room = w.there in absurd (taken (Flag at) (read_kind trace at Retirement (omega arith) w.kind ∙ record_flag trace at Retirement w.long (omega arith) e))
      go false e = low_got w e
