-- Document 01, part 3, "Masks": what it takes to reach an operand, and the groups that are all operands. The Rust:
-- ea_masks in reg_masks_060.
--
--   Sets                       ==  the registers that an instruction uses, and those that it defines
--   uses u defines d           ==  uses the registers of u and defines those of d
--   undecoded                  ==  every register, used and defined   "Undecoded groups give FFFF for both"
--   operand_rows mode reg      ==  what it takes to reach an operand, a row for each kind of mode: the Rust's ea_masks
--   operand_sets mode reg      ==  the first of these rows that holds
--   operand_uses op            ==  what reaching the operand in the low six bits uses
--   operand_defs op            ==  what reaching the operand in the low six bits defines
--   destination_uses op        ==  what reaching MOVE's destination, bits 6 to 11, uses
--   destination_defs op        ==  what reaching MOVE's destination, bits 6 to 11, defines
--   register_operand mode reg  ==  the register that an operand itself is, if it is one: the Rust's extra_def, and
--                                  operand_def of group 5
--   move_sets op               ==  groups 1 to 3: MOVE, MOVEA
--   quick_sets op              ==  group 5: ADDQ, SUBQ, Scc
--   mask_pair s                ==  the masks of the two sets, as the struct of the code that holds them
use Rattle.std.specs.Prelude.{ℕ, ◌||◌, eqb}
use Rattle.bits.specs.Fields.{mode_of, reg_of, dst_mode_of, dst_reg_of}
use Rattle.bits.specs.Rows.{Rows, otherwise, ◌⇒◌⨾◌, first}
use Rattle.masks.specs.declared.registers.RegMasks060.{RegMasks060}
use Rattle.masks.specs.Registers.{Regs, D, A, none, all, union, mask_of_regs}

pub record Sets : Type 0 where
  pub uses : Regs
  pub defs : Regs

infix 10 uses◌defines◌
abbrev pub uses◌defines◌ : Regs → Regs → Sets
uses◌defines◌ u d = record { uses = u; defs = d }

abbrev pub undecoded : Sets
undecoded = uses all defines all

-- Dn; An; (An) and (d16,An); (An)+ and -(An), which change An; an index, which may be any register; absolute,
-- PC-relative, immediate
abbrev pub operand_rows : ℕ → ℕ → Rows Sets
operand_rows mode reg =
    eqb mode 0 ⇒ (uses D reg defines none) ⨾
    eqb mode 1 ⇒ (uses A reg defines none) ⨾
    eqb mode 2 || eqb mode 5 ⇒ (uses A reg defines none) ⨾
    eqb mode 3 || eqb mode 4 ⇒ (uses A reg defines A reg) ⨾
    eqb mode 6 ⇒ (uses all defines none) ⨾
    otherwise (uses none defines none)

unfoldable pub operand_sets : ℕ → ℕ → Sets
operand_sets mode reg = first (operand_rows mode reg)

abbrev pub operand_uses : ℕ → Regs
operand_uses op = (operand_sets (mode_of op) (reg_of op)).uses

abbrev pub operand_defs : ℕ → Regs
operand_defs op = (operand_sets (mode_of op) (reg_of op)).defs

abbrev pub destination_uses : ℕ → Regs
destination_uses op = (operand_sets (dst_mode_of op) (dst_reg_of op)).uses

abbrev pub destination_defs : ℕ → Regs
destination_defs op = (operand_sets (dst_mode_of op) (dst_reg_of op)).defs

unfoldable pub register_operand : ℕ → ℕ → Regs
register_operand mode reg = first (
    eqb mode 0 ⇒ D reg ⨾
    eqb mode 1 ⇒ A reg ⨾
    otherwise none)

abbrev pub move_sets : ℕ → Sets
move_sets op =
    uses union (operand_uses op) (destination_uses op)
    defines union (union (operand_defs op) (destination_defs op)) (register_operand (dst_mode_of op) (dst_reg_of op))

abbrev pub quick_sets : ℕ → Sets
quick_sets op = uses operand_uses op defines union (operand_defs op) (register_operand (mode_of op) (reg_of op))

abbrev pub mask_pair : Sets → RegMasks060
mask_pair s = record { uses = mask_of_regs s.uses; defs = mask_of_regs s.defs }
