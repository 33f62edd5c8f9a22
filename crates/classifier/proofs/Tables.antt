-- The code's two tables of bits: a test computed at all six bits gives the rule at any.
-- Assumes nothing.
use mathlib.Core.Path.{◌≡◌, ap, ◌∙◌}
use mathlib.Core.Bool.{Bool, true}
use Prim.Native.Nat.{ℕ, ◌/◌, ◌%◌, ◌^◌, ◌<◌}
use lib.Dec.{eqb}
use lib.Bits.{bit_and, and_mask}
use borrow.Author.Tests.{eqb-true}
use Rattle.bits.specs.Below.{every_below}
use Rattle.bits.specs.Words.{num}
use Rattle.bits.proofs.Below.{each_below}
use Rattle.bits.proofs.Words.{num_is}

-- the table's bit of these six bits is the rule's answer at their mode and reg
abbrev pub agrees : ℕ → (ℕ → ℕ → Bool) → ℕ → Bool
agrees table rule six = eqb (table / 2 ^ six % 2) (num (rule (six / 8) (six % 8)))

pub looked_up : (table : ℕ) (rule : ℕ → ℕ → Bool) → every_below 64 (agrees table rule) ≡ true → (six : ℕ) → six < 64
    → eqb (bit_and (table / 2 ^ six) 1) 1 ≡ rule (six / 8) (six % 8)
looked_up table rule t six h =
    ap (λ (n : ℕ). eqb n 1) (and_mask (table / 2 ^ six) 1 ∙ eqb-true _ _ (each_below 64 (agrees table rule) t six h)) ∙ num_is (rule (six / 8) (six % 8))
