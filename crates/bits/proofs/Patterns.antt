-- One law for every pattern: an opcode matches it where the opcode, masked, is the pattern's value.
-- Assumes nothing.
use mathlib.Core.Path.{◌≡◌, refl, ap, sym, ◌∙◌}
use mathlib.Core.Bool.{Bool, true, false, ◌&&◌}
use Prim.Native.Nat.{ℕ, ◌+◌, ◌*◌, ◌/◌, ◌%◌, ◌<◌, ◌≤◌}
use native.Mathlib.Nat.{min-eq_left, min-zero}
use native.Mathlib.Omega.{arith}
use lib.Dec.{eqb}
use lib.Bits.{bit_and, and_step, and_zero_r}
use borrow.Author.Tests.{eqb-true, eqb-false, eq-eqb, ne_eqb}
use Rattle.bits.specs.Pattern.{Pattern, bits, ◌O, ◌I, ◌X, matches, mask_of, value_of}

-- two numbers are equal where their lowest digits and the rest are
digits_equal : (a v d e : ℕ) → d < 2 → e < 2 → (t : Bool) → eqb d e ≡ t → eqb (a * 2 + d) (v * 2 + e) ≡ (t && eqb a v)
digits_equal a v d e hd he true q = go (eqb a v) refl
  where
    de : d ≡ e
    de = eqb-true d e q

    go : (u : Bool) → eqb a v ≡ u → eqb (a * 2 + d) (v * 2 + e) ≡ eqb a v
    go true h = let av : a ≡ v = eqb-true a v h in eq-eqb (a * 2 + d) (v * 2 + e) (omega (arith, de)) ∙ sym h
    go false h = ne_eqb (a * 2 + d) (v * 2 + e) (λ k. eqb-false a v h (omega (arith, de))) ∙ sym h
digits_equal a v d e hd he false q = ne_eqb (a * 2 + d) (v * 2 + e) (λ k. eqb-false d e q (omega arith))

-- a mask's lowest digit is 1: the opcode's is kept; 0: it goes
and_one : (op m : ℕ) → bit_and op (m * 2 + 1) ≡ bit_and (op / 2) m * 2 + op % 2
and_one op m =
    let h : (m * 2 + 1) / 2 ≡ m = omega arith in
    let l : (m * 2 + 1) % 2 ≡ 1 = omega arith in
    let k : op % 2 ≤ 1 = omega arith in
    and_step op (m * 2 + 1) ∙ rw (h, l, min-eq_left k)

and_none : (op m : ℕ) → bit_and op (m * 2 + 0) ≡ bit_and (op / 2) m * 2 + 0
and_none op m =
    let h : (m * 2 + 0) / 2 ≡ m = omega arith in
    let l : (m * 2 + 0) % 2 ≡ 0 = omega arith in
    and_step op (m * 2 + 0) ∙ rw (h, l, min-zero)

pub masked : (p : Pattern) (op : ℕ) → eqb (bit_and op (mask_of p)) (value_of p) ≡ matches p op
unfolding matches
masked bits op = ap (λ (n : ℕ). eqb n 0) (and_zero_r op)
masked (p O) op =
    ap (λ (n : ℕ). eqb n (value_of p * 2 + 0)) (and_one op (mask_of p))
    ∙ digits_equal (bit_and (op / 2) (mask_of p)) (value_of p) (op % 2) 0 (omega arith) (omega arith) (eqb (op % 2) 0) refl
    ∙ ap (λ (t : Bool). eqb (op % 2) 0 && t) (masked p (op / 2))
masked (p I) op =
    ap (λ (n : ℕ). eqb n (value_of p * 2 + 1)) (and_one op (mask_of p))
    ∙ digits_equal (bit_and (op / 2) (mask_of p)) (value_of p) (op % 2) 1 (omega arith) (omega arith) (eqb (op % 2) 1) refl
    ∙ ap (λ (t : Bool). eqb (op % 2) 1 && t) (masked p (op / 2))
masked (p X) op =
    ap (λ (n : ℕ). eqb n (value_of p * 2 + 0)) (and_none op (mask_of p))
    ∙ digits_equal (bit_and (op / 2) (mask_of p)) (value_of p) 0 0 (omega arith) (omega arith) true refl
    ∙ masked p (op / 2)

-- what a test of the code says of a pattern
pub hit : (p : Pattern) (op : ℕ) → bit_and op (mask_of p) ≡ value_of p → matches p op ≡ true
hit p op h = sym (masked p op) ∙ eq-eqb (bit_and op (mask_of p)) (value_of p) h

pub miss : (p : Pattern) (op : ℕ) → (bit_and op (mask_of p) ≡ value_of p → ⊥) → matches p op ≡ false
miss p op h = sym (masked p op) ∙ ne_eqb (bit_and op (mask_of p)) (value_of p) h
