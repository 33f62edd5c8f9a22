-- Opcode patterns, as Motorola's manuals print them: the highest place first, each place 0, 1 or any.
--
--   Pattern       ==  `bits I X O` is the pattern "1x0" of the low three bits; what stands above it is not looked at
--   matches p op  ==  the opcode has the pattern's bits wherever the pattern has 0 or 1
--   mask_of p     ==  the number with bit 1 where the pattern has 0 or 1: the Rust's M in `op & M == V`
--   value_of p    ==  the number with bit 1 where the pattern has 1: the Rust's V
use Rattle.std.specs.Prelude.{ℕ, ◌+◌, ◌*◌, ◌/◌, ◌%◌, Bool, true, ◌&&◌, eqb}

infixl 90 ◌O
infixl 90 ◌I
infixl 90 ◌X
pub data Pattern : Type 0 where
  bits : Pattern
  ◌O : Pattern → Pattern
  ◌I : Pattern → Pattern
  ◌X : Pattern → Pattern

unfoldable pub matches : Pattern → ℕ → Bool
matches bits op = true
matches (p O) op = eqb (op % 2) 0 && matches p (op / 2)
matches (p I) op = eqb (op % 2) 1 && matches p (op / 2)
matches (p X) op = matches p (op / 2)

abbrev pub mask_of : Pattern → ℕ
mask_of bits = 0
mask_of (p O) = mask_of p * 2 + 1
mask_of (p I) = mask_of p * 2 + 1
mask_of (p X) = mask_of p * 2 + 0

abbrev pub value_of : Pattern → ℕ
value_of bits = 0
value_of (p O) = value_of p * 2 + 0
value_of (p I) = value_of p * 2 + 1
value_of (p X) = value_of p * 2 + 0
