-- Document 01, "Records and images": "little-endian", the lowest byte first. The Rust has none.
--
--   number_at k s at     ==  the number that the k bytes of s from the place `at` on stand for
--                            "A record is a 2-byte payload length, .. little-endian"
--   numbers_at n k s at  ==  n numbers of k bytes each, the first at the place `at`
--   bytes_of k n         ==  the k bytes of the number n
--                            "Costs in bytes are little-endian"
--   bytes_of_each k ns   ==  the k bytes of each number of the list ns, one number behind the other
--   put_at s at bs       ==  the list s with the bytes bs from the place `at` on, all others as they were
--   Below m s            ==  every number of the list s is below m: `Below 256 s` says that s is a list of bytes
use Rattle.std.specs.Prelude.{ℕ, zero, suc, ◌+◌, ◌*◌, ◌/◌, ◌%◌, ◌<◌, List, [], ◌∷◌, ◌++◌, length, get_or, take, drop}

unfoldable pub number_at : ℕ → List ℕ → ℕ → ℕ
number_at zero s at = 0
number_at (suc k) s at = get_or s at 0 + 256 * number_at k s (at + 1)

unfoldable pub numbers_at : ℕ → ℕ → List ℕ → ℕ → List ℕ
numbers_at zero k s at = []
numbers_at (suc n) k s at = number_at k s at ∷ numbers_at n k s (at + k)

unfoldable pub bytes_of : ℕ → ℕ → List ℕ
bytes_of zero n = []
bytes_of (suc k) n = n % 256 ∷ bytes_of k (n / 256)

unfoldable pub bytes_of_each : ℕ → List ℕ → List ℕ
bytes_of_each k [] = []
bytes_of_each k (n ∷ ns) = bytes_of k n ++ bytes_of_each k ns

unfoldable pub put_at : List ℕ → ℕ → List ℕ → List ℕ
put_at s at bs = take at s ++ bs ++ drop (at + length bs) s

abbrev pub Below : ℕ → List ℕ → Type 0
Below m s = (i : ℕ) → get_or s i 0 < m
