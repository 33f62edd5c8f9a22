-- One bit of a word.
-- Assumes nothing.
use mathlib.Core.Path.{◌≡◌, refl, ap, ◌∙◌}
use mathlib.Core.Bool.{Bool, true, false, not}
use Prim.Native.Nat.{ℕ, zero, suc, ◌+◌, ◌-◌, ◌*◌, ◌/◌, ◌%◌, ◌^◌, ◌<◌}
use native.Mathlib.Omega.{arith}
use mir.Val.{bool_byte}
use lib.Dec.{eqb}
use lib.Pow.{pow-add, pow_pos}
use lib.Bits.{bit_and, and_high}
use borrow.Author.Tests.{eq-eqb, ne_eqb}
use Rattle.bits.specs.Words.{num, bit, meets}

pub num_small : (b : Bool) → num b < 2
num_small true = omega arith
num_small false = omega arith

-- the library's number of a yes or no
pub num_byte : (b : Bool) → bool_byte b ≡ num b
num_byte true = refl
num_byte false = refl

pub num_is : (b : Bool) → eqb (num b) 1 ≡ b
num_is true = refl
num_is false = refl

-- a word meets 2 ^ i where bit i is set
pub meets_bit : (w i : ℕ) → meets w (2 ^ i) ≡ bit i w
meets_bit w i = go (w / 2 ^ i % 2) refl (omega arith)
  where
    one : bit_and w (2 ^ i) ≡ (w / 2 ^ i % 2) * 2 ^ i
    one =
        let p : 2 ^ (1 + i) ≡ 2 * 2 ^ i = pow-add 2 1 i in
        let s : 2 ^ (1 + i) - 2 ^ i ≡ 2 ^ i = omega arith in
        let h : bit_and w (2 ^ (1 + i) - 2 ^ i) ≡ (w / 2 ^ i % 2) * 2 ^ i = and_high w 1 i in
        rw s at h

    go : (d : ℕ) → w / 2 ^ i % 2 ≡ d → d < 2 → meets w (2 ^ i) ≡ eqb d 1
    go zero e h = ap not (eq-eqb (bit_and w (2 ^ i)) 0 (one ∙ rw e (omega arith)))
    go (suc zero) e h = ap not (ne_eqb (bit_and w (2 ^ i)) 0 (λ (k : bit_and w (2 ^ i) ≡ 0). let o : bit_and w (2 ^ i) ≡ 1 * 2 ^ i = rw e at one in omega (arith, pow_pos i)))
    go (suc (suc d)) e h = absurd (omega arith)
