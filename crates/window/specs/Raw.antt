-- Document 01, "One retirement": raw counts. The Rust: fallback_cycles.
--
--   quarter z       ==  z over 4, without what is left over       "raw divided by 4, truncated toward zero"
--   at_least_one z  ==  the larger of z and 1                     "at least 1"
--   fallback_of z   ==  the 68060 clocks of a raw 68000 count z   "they meet only in the fallback"
--   raw_count z     ==  the struct of the code that holds a raw count z
--
-- `pos n` is the whole number n, and `negsuc n` is -(n + 1), so that -1 is `negsuc 0`.
use Rattle.std.specs.Prelude.{ℕ, suc, ◌/◌, max, ℤ, pos, negsuc, neg_ℤ}
use Rattle.window.specs.declared.raw.RawCount.{RawCount}

abbrev pub quarter : ℤ → ℤ
quarter (pos n) = pos (n / 4)
quarter (negsuc n) = neg_ℤ (pos (suc n / 4))

abbrev pub at_least_one : ℤ → ℕ
at_least_one (pos n) = max n 1
at_least_one (negsuc n) = 1

unfoldable pub fallback_of : ℤ → ℕ
fallback_of z = at_least_one (quarter z)

abbrev pub raw_count : ℤ → RawCount
raw_count z = record { 0 = z }
