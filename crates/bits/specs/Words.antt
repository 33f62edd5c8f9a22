-- Bits of a word.
--
--   num t           ==  1 where t holds, else 0
--   bit i w         ==  bit i of the word is set
--   packed_bits bs  ==  the number whose bits are the yes and no of the list bs, bit 0 first
--   meets a b       ==  the two words have a bit in common: the Rust's `a & b != 0`
use Rattle.std.specs.Prelude.{ℕ, ◌+◌, ◌*◌, ◌/◌, ◌%◌, ◌^◌, Bool, true, false, not, List, [], ◌∷◌, eqb}
use Rattle.std.specs.Int.Bits.{bit_and}

abbrev pub num : Bool → ℕ
num true = 1
num false = 0

abbrev pub bit : ℕ → ℕ → Bool
bit i w = eqb (w / 2 ^ i % 2) 1

abbrev pub packed_bits : List Bool → ℕ
packed_bits [] = 0
packed_bits (b ∷ bs) = num b + 2 * packed_bits bs

abbrev pub meets : ℕ → ℕ → Bool
meets a b = not (eqb (bit_and a b) 0)
