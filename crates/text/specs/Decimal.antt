-- Document 01, "Worked instructions": "Opcodes are four upper-case hex digits, the rest decimal".
--
--   digit n           ==  the character of a number below 10: '0' to '9'
--   digits_in most n  ==  the decimal digits of n, the highest first, if there are at most so many
--   decimal_of n      ==  the decimal digits of n as characters, the highest first: no leading zero, and "0" for 0
use Rattle.std.specs.Prelude.{ℕ, zero, suc, ◌+◌, ◌/◌, ◌%◌, cond, List, [], ◌∷◌, ◌++◌, ltb}

abbrev pub digit : ℕ → ℕ
digit n = 48 + n

unfoldable pub digits_in : ℕ → ℕ → List ℕ
digits_in zero n = []
digits_in (suc most) n = cond (ltb n 10) (digit n ∷ []) (digits_in most (n / 10) ++ digit (n % 10) ∷ [])

-- a number has no more digits than it counts, and 0 has one
unfoldable pub decimal_of : ℕ → List ℕ
decimal_of n = digits_in (suc n) n
