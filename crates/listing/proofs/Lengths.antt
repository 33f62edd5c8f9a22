-- How long numbers and lines are.
-- Assumes nothing.
use Prim.Native.Nat.{ℕ, ◌+◌, ◌^◌, ◌≤◌, ◌<◌}
use mathlib.Core.Path.{◌≡◌}
use native.Mathlib.Omega.{arith}
use lib.ListN.{length, length-append}
use Rattle.text.specs.Decimal.{decimal_of}
use Rattle.text.proofs.Digits.{decimal_length}
use Rattle.listing.specs.Lines.{retirement_line, total_line}

-- a number of 64 bits has 20 digits at most
pub digits_most : (n : ℕ) → n < 2 ^ 64 → length (decimal_of n) ≤ 20
digits_most n h = decimal_length 20 n (omega arith) (omega arith)

pub line_length : (i op n : ℕ) → length (retirement_line i op n) ≡ length (decimal_of i) + length (decimal_of n) + 7
line_length i op n = simp length-append (omega arith)

-- an index of 4 digits and a cost of 9
pub line_most : (i op n : ℕ) → i < 10000 → n ≤ 536870912 → length (retirement_line i op n) ≤ 20
line_most i op n h l =
    omega (arith, line_length i op n, decimal_length 4 i (omega arith) (omega arith), decimal_length 9 n (omega arith) (omega arith))

pub total_most : (count sum : ℕ) → count < 2 ^ 64 → sum < 2 ^ 64 → length (total_line count sum) ≤ 48
total_most count sum h l = simp length-append (omega (arith, digits_most count h, digits_most sum l))
