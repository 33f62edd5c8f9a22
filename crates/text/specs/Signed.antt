-- A signed number as the tools print it.
--
--   signed_decimal_of z  ==  the decimal digits of z as characters, behind a "-" where z is below 0
--
-- `pos n` is the whole number n, and `negsuc n` is -(n + 1), so that -1 is `negsuc 0`.
use Rattle.std.specs.Prelude.{ℕ, suc, List, ◌++◌, ℤ, pos, negsuc}
use Rattle.text.specs.Decimal.{decimal_of}
use Rattle.text.specs.Written.{text_of}

abbrev pub signed_decimal_of : ℤ → List ℕ
signed_decimal_of (pos n) = decimal_of n
signed_decimal_of (negsuc n) = text_of "-" ++ decimal_of (suc n)
