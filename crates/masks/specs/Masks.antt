-- Document 01, part 3, "Masks". The Rust: reg_masks_060. Its order of groups, and of tests within a group.
--
--   moveq_sets op        ==  group 7: MOVEQ
--   dyadic_rows op       ==  groups 8, 9, B, C and D: OR, SUB, CMP and EOR, AND, ADD, by bits 6 to 8: the Rust's opmode
--   dyadic_sets op       ==  the first of these rows that holds
--   count_uses op        ==  the register that holds a shift's count, if bit 5 says that one does: the Rust's count_use
--   shift_rows op        ==  group E: shifts and rotates
--   shift_sets op        ==  the first of these rows that holds
--   group_sets group op  ==  what an opcode's instruction uses and defines, by its group; groups 1 to 3 and 5 are in
--                            Operands, 4 is in GroupFour
--   sets_of op           ==  the same, the group being the opcode's own   "The top four bits choose the group"
--   masks_of op          ==  the two masks of an opcode: the answer of reg_masks_060
--
-- The masks do not always say what the processor does. That is reproduced on purpose:
--   EOR Dn,Dm defines nothing (B141 is 0003, 0000), and EXG neither.
--   CMP defines the register that it only looks at.
--   MULU, MULS, DIVU and DIVS name An where they have Dn, and so does DBcc.
-- So with group 4 (GroupFour): EXTB, SWAP, EXT and TST.
use Rattle.std.specs.Prelude.{ℕ, cond, ◌&&◌, ◌||◌, eqb, leb}
use Rattle.bits.specs.Pattern.{matches}
use Rattle.bits.specs.Instructions.{size11}
use Rattle.bits.specs.Fields.{group_of, reg_of, dst_mode_of, dst_reg_of}
use Rattle.bits.specs.Rows.{Rows, otherwise, ◌⇒◌⨾◌, first}
use Rattle.bits.specs.Words.{bit}
use Rattle.masks.specs.declared.registers.RegMasks060.{RegMasks060}
use Rattle.masks.specs.Registers.{Regs, D, A, none, union}
use Rattle.masks.specs.Operands.{
  Sets,
  uses◌defines◌,
  undecoded,
  operand_uses,
  operand_defs,
  move_sets,
  quick_sets,
  mask_pair,
}
use Rattle.masks.specs.GroupFour.{group4_sets}

abbrev pub moveq_sets : ℕ → Sets
moveq_sets op = uses none defines D (dst_reg_of op)

-- <ea>,Dn; <ea>,An; Dn,<ea>, which defines no register even where <ea> is one: EOR Dn,Dm
abbrev pub dyadic_rows : ℕ → Rows Sets
dyadic_rows op =
    leb (dst_mode_of op) 2 ⇒ (uses union (operand_uses op) (D (dst_reg_of op))
    defines union (operand_defs op) (D (dst_reg_of op))) ⨾
    eqb (dst_mode_of op) 3
    || eqb (dst_mode_of op) 7 ⇒ (uses union (operand_uses op) (A (dst_reg_of op))
    defines union (operand_defs op) (A (dst_reg_of op))) ⨾
    otherwise (uses union (D (dst_reg_of op)) (operand_uses op) defines operand_defs op)

unfoldable pub dyadic_sets : ℕ → Sets
dyadic_sets op = first (dyadic_rows op)

abbrev pub count_uses : ℕ → Regs
count_uses op = cond (bit 5 op) (D (dst_reg_of op)) none

-- the first row is the Rust's guard: group E is decoded only where it shifts a register, and not where bits 6 and 7 are
-- 11
abbrev pub shift_rows : ℕ → Rows Sets
shift_rows op =
    matches size11 op ⇒ undecoded ⨾
    otherwise (uses union (D (reg_of op)) (count_uses op) defines D (reg_of op))

unfoldable pub shift_sets : ℕ → Sets
shift_sets op = first (shift_rows op)

-- "Undecoded groups give FFFF for both": 0, 6, A and F
abbrev pub group_sets : ℕ → ℕ → Sets
group_sets group op = first (
    leb 1 group && leb group 3 ⇒ move_sets op ⨾
    eqb group 7 ⇒ moveq_sets op ⨾
    eqb group 8 || eqb group 9 || eqb group 0xB || eqb group 0xC || eqb group 0xD ⇒ dyadic_sets op ⨾
    eqb group 5 ⇒ quick_sets op ⨾
    eqb group 0xE ⇒ shift_sets op ⨾
    eqb group 4 ⇒ group4_sets op ⨾
    otherwise undecoded)

unfoldable pub sets_of : ℕ → Sets
sets_of op = group_sets (group_of op) op

abbrev pub masks_of : ℕ → RegMasks060
masks_of op = mask_pair (sets_of op)
