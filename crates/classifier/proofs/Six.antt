-- The six bits of an operand: mode and reg, of the low six bits of an opcode and put together from two fields.
-- Assumes nothing.
use mathlib.Core.Path.{◌≡◌, ◌∙◌, ap}
use Prim.Native.Nat.{ℕ, ◌+◌, ◌*◌, ◌/◌, ◌%◌, ◌<◌}
use native.Mathlib.Omega.{arith}
use lib.Bits.{bit_and, bit_or, and_mask, or_shifted}
use Rattle.bits.specs.Fields.{mode_of, reg_of}

pub low_six : (op : ℕ) → bit_and op 63 ≡ op % 64
low_six op = and_mask op 6

pub low_small : (op : ℕ) → bit_and op 63 < 64
low_small op = omega (arith, low_six op)

pub low_mode : (op : ℕ) → bit_and op 63 / 8 ≡ mode_of op
low_mode op = omega (arith, low_six op)

pub low_reg : (op : ℕ) → bit_and op 63 % 8 ≡ reg_of op
low_reg op = omega (arith, low_six op)

module _ (mode reg : ℕ) (m : mode < 8) (r : reg < 8) where
  -- as the code shifts and joins them
  abbrev six : ℕ
  six = bit_or (mode * 8 % 65536) reg

  both : six ≡ mode * 8 + reg
  both = let e : mode * 8 % 65536 ≡ mode * 8 = omega arith in ap (λ (n : ℕ). bit_or n reg) e ∙ or_shifted mode 3 reg r

  pub both_small : six < 64
  both_small = omega (arith, both)

  pub both_mode : six / 8 ≡ mode
  both_mode = omega (arith, both)

  pub both_reg : six % 8 ≡ reg
  both_reg = omega (arith, both)
