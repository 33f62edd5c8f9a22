-- Document 01, part 3, "Masks": group 4. The Rust: reg_masks_060. Its order of tests within the group.
--
--   data_operand mode reg  ==  the data register that an operand itself is, if it is one: the Rust's operand_def of
--                              group 4
--   one_operand_sets op    ==  the instructions of group 4 with one operand: NEGX, CLR, NEG, NOT, TST and what else has
--                              their bits
--   group4_rows op         ==  group 4   "LEA's rule stands first in group 4"
--   group4_sets op         ==  the first of these rows that holds
--
-- The masks do not always say what the processor does. That is reproduced on purpose:
--   EXTB falls under LEA's rule (49C0 is 0001, 1000); SWAP and EXT are undecoded.
--   TST defines the register that it only looks at.
use Rattle.std.specs.Prelude.{ℕ, ◌/◌, ◌%◌, cond, ◌||◌, eqb, ltb}
use Rattle.bits.specs.Pattern.{matches}
use Rattle.bits.specs.Instructions.{lea, tst}
use Rattle.bits.specs.Fields.{mode_of, reg_of, dst_reg_of}
use Rattle.bits.specs.Rows.{Rows, otherwise, ◌⇒◌⨾◌, first}
use Rattle.masks.specs.Registers.{Regs, D, A, none, union}
use Rattle.masks.specs.Operands.{Sets, uses◌defines◌, undecoded, operand_uses, operand_defs}

abbrev pub data_operand : ℕ → ℕ → Regs
data_operand mode reg = cond (eqb mode 0) (D reg) none

abbrev pub one_operand_sets : ℕ → Sets
one_operand_sets op = uses operand_uses op defines union (operand_defs op) (data_operand (mode_of op) (reg_of op))

-- "LEA's rule stands first in group 4", so EXTB stops there; the second row looks at bits 8 to 11
abbrev pub group4_rows : ℕ → Rows Sets
group4_rows op =
    matches lea op ⇒ (uses operand_uses op defines A (dst_reg_of op)) ⨾
    ltb (op / 256 % 16) 7 || matches tst op ⇒ one_operand_sets op ⨾
    otherwise undecoded

unfoldable pub group4_sets : ℕ → Sets
group4_sets op = first (group4_rows op)
