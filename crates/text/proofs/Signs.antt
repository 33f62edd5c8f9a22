-- A signed number: how many characters it has, and those of one below 0.
-- Assumes nothing.
use Prim.Native.Nat.{suc, ◌≤◌}
use mathlib.Core.Path.{◌≡◌, refl}
use mathlib.Core.Bool.{true}
use mathlib.Core.List.{◌++◌}
use native.Mathlib.Omega.{arith}
use borrow.Author.Tests.{ltb-true}
use lib.IntN.{ℤ, pos, negsuc, nat_abs}
use lib.ListN.{length, length-append}
use lib.Signed.{lt_z}
use mir.Syntax.{w32}
use mir.Val.{SFits}
use Rattle.text.specs.Decimal.{decimal_of}
use Rattle.text.specs.Signed.{signed_decimal_of}
use Rattle.text.specs.Written.{text_of}
use Rattle.text.proofs.Digits.{decimal_length}

-- ten digits and the sign
pub signed_length : (z : ℤ) → SFits w32 z → length (signed_decimal_of z) ≤ 11
signed_length (pos n) h = omega (arith, h.sfits, decimal_length 10 n (omega arith) (omega (arith, h.sfits)))
signed_length (negsuc n) h =
    omega (arith, length-append (text_of "-") (decimal_of (suc n)), decimal_length 10 (suc n) (omega arith) (omega (arith, h.sfits)))

pub signed_below : (z : ℤ) → lt_z z (pos 0) ≡ true → signed_decimal_of z ≡ text_of "-" ++ decimal_of (nat_abs z)
signed_below (pos n) e = absurd (omega (arith, ltb-true n 0 e))
signed_below (negsuc n) e = refl
