-- Document 01, "Records and images": the signed number of 32 bits. The Rust has none.
--
--   signed_of x  ==  the signed number with the 32 bits of x: x itself below 2^31, and from there on x less 2^32
--                    "raw 4 signed"
use Rattle.std.specs.Prelude.{ℕ, ◌-◌, ◌^◌, cond, ℤ, pos, negsuc, ltb}

-- `negsuc n` is the library's -1 - n, so that `negsuc (2 ^ 32 - 1 - x)` is x less 2^32
unfoldable pub signed_of : ℕ → ℤ
signed_of x = cond (ltb x (2 ^ 31)) (pos x) (negsuc (2 ^ 32 - 1 - x))
