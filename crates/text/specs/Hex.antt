-- Document 01, "Worked instructions": "Opcodes are four upper-case hex digits".
--
--   hex_digit n         ==  the character of a number below 16: '0' to '9', 'A' to 'F'
--   hex_digits count n  ==  so many characters of a number: its last one at the end, before it those of a sixteenth
--   hex_byte_of b       ==  the two characters of a byte
--   hex_of w            ==  the four characters of a 16-bit word
--   hex_long_of n       ==  the eight characters of a 32-bit number
use Rattle.std.specs.Prelude.{ℕ, zero, suc, ◌+◌, ◌/◌, ◌%◌, cond, List, [], ◌∷◌, ◌++◌, ltb}

unfoldable pub hex_digit : ℕ → ℕ
hex_digit n = cond (ltb n 10) (48 + n) (55 + n)

abbrev pub hex_digits : ℕ → ℕ → List ℕ
hex_digits zero n = []
hex_digits (suc count) n = hex_digits count (n / 16) ++ hex_digit (n % 16) ∷ []

abbrev pub hex_byte_of : ℕ → List ℕ
hex_byte_of b = hex_digits 2 b

abbrev pub hex_of : ℕ → List ℕ
hex_of w = hex_digits 4 w

abbrev pub hex_long_of : ℕ → List ℕ
hex_long_of n = hex_digits 8 n
