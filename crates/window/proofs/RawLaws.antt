-- The fallback by the quotient that the code computes, its least and its largest value.
-- Assumes nothing.
use mathlib.Core.Path.{◌≡◌, refl, sym}
use mathlib.Core.List.{[], ◌∷◌, map}
use Prim.Native.Nat.{ℕ, zero, suc, ◌/◌, ◌<◌, ◌≤◌}
use native.Mathlib.Omega.{arith}
use native.Mathlib.Nat.{max-eq_left}
use lib.IntN.{ℤ, pos, negsuc, neg_ℤ, nat_abs}
use lib.Signed.{quot_z}
use mir.Val.{SFits}
use mir.Syntax.{w32}
use borrow.Author.Tests.{le-leb}
use Rattle.std.specs.Int.{int_max}
use Rattle.window.specs.Raw.{quarter, at_least_one, fallback_of}

-- the quotient of a raw count is a raw count
pub quotient_fits : (z : ℤ) → SFits w32 z → SFits w32 (quot_z z (pos 4))
quotient_fits (pos n) h = record { sfits = omega (arith, h.sfits) }
quotient_fits (negsuc n) h = go (suc n / 4) (omega (arith, h.sfits))
  where
    go : (m : ℕ) → m < 2147483648 → SFits w32 (neg_ℤ (pos m))
    go zero k = record { sfits = omega arith }
    go (suc m) k = record { sfits = omega arith }

none : (m : ℕ) → 1 ≡ at_least_one (neg_ℤ (pos m))
none zero = refl
none (suc m) = refl

-- the larger of the quotient and 1
pub at_least_one_is : (z : ℤ) → nat_abs (int_max (quot_z z (pos 4)) (pos 1)) ≡ fallback_of z
unfolding fallback_of
at_least_one_is z = go z
  where
    one : (q : ℤ) → nat_abs (int_max q (pos 1)) ≡ at_least_one q
    one (pos zero) = refl
    one (pos (suc zero)) = refl
    one (pos (suc (suc n))) = rw (le-leb 2 (suc (suc n)) (omega arith)) (sym (max-eq_left (omega arith)))
    one (negsuc n) = refl

    go : (z : ℤ) → nat_abs (int_max (quot_z z (pos 4)) (pos 1)) ≡ at_least_one (quarter z)
    go (pos n) = one (pos (n / 4))
    go (negsuc n) = one (neg_ℤ (pos (suc n / 4)))

pub fallback_least : (z : ℤ) → 1 ≤ fallback_of z
unfolding fallback_of
fallback_least z = go (quarter z)
  where
    go : (q : ℤ) → 1 ≤ at_least_one q
    go (pos n) = omega arith
    go (negsuc n) = omega arith

-- document 01's "Fallback: -2147483648, -1 and 7 give 1; 8 and 11 give 2; 12 gives 3; 2147483647 gives 536870911"
pub fallback_worked : map fallback_of (negsuc 2147483647 ∷ negsuc 0 ∷ pos 7 ∷ pos 8 ∷ pos 11 ∷ pos 12 ∷ pos 2147483647 ∷ [])
    ≡ (1 ∷ 1 ∷ 1 ∷ 2 ∷ 2 ∷ 3 ∷ 536870911 ∷ [])
unfolding fallback_of
fallback_worked = refl

-- a signed count of 32 bits gives no more than the last of these
pub fallback_most : (z : ℤ) → SFits w32 z → fallback_of z ≤ 536870911
unfolding fallback_of
fallback_most (pos n) h = omega (arith, h.sfits)
fallback_most (negsuc n) h = omega (arith, none (suc n / 4))
