-- What Motorola's M68000 Family Programmer's Reference Manual says of MOVE and MOVEA, MOVEQ, ADDQ, SUBQ, EOR, EXTB and
-- CMPM: which of their forms are valid, and which data and address registers each reads and writes. Document 02, R-4:
-- "as Motorola's Programmer's Reference Manual gives them". No mask of ours is read here: only the notation of sets of
-- registers, D and A among it, is that of masks/Registers. docs/MANUAL.md says from where each line is.
--
--   Category               ==  the categories of modes: alterable, what can be written, and of these the address
--                              register, which no byte operation takes; unalterable; and `reserved`, where there is no
--                              mode
--   is_any c               ==  any of the twelve modes
--   is_alterable c         ==  an alterable mode
--   is_an c                ==  address register direct
--   Operand                ==  an operand: its category; `itself`, the register that it is, if it is one; `pointed`,
--                              the registers that are read to reach it; `stepped`, the register that (An)+ and -(An)
--                              write
--   operand c i p s        ==  the operand of this category, itself i, with p read to reach it and s written
--   operand_rows mode reg  ==  the modes, by three bits of mode and three of register. An index may be any register,
--                              since the extension word names it
--   operand_of mode reg    ==  the first of these rows that holds
--   source, destination    ==  the operand of the low six bits, and MOVE's destination
--   Form                   ==  is it valid; the registers that it reads; those that it writes
--   form v r w             ==  these three
--   move_form byte op      ==  MOVE <ea>,<ea> and MOVEA <ea>,An, of byte size or not: no byte of an address register
--   quick_form byte op     ==  ADDQ #d,<ea> and SUBQ #d,<ea>: no byte of an address register
--   eor_form op            ==  EOR Dx,<ea>: <ea> is alterable, and no address register
--   form_rows g op         ==  the forms of group g, the first four bits of the opcode
--   form_of op             ==  the form of an opcode; any other instruction's is not valid here
use Rattle.std.specs.Prelude.{ℕ, Bool, true, false, not, ◌&&◌, ◌||◌, eqb}
use Rattle.bits.specs.Pattern.{bits, ◌O, ◌I, ◌X, matches}
use Rattle.bits.specs.Instructions.{size11}
use Rattle.bits.specs.Fields.{group_of, mode_of, reg_of, dst_mode_of, dst_reg_of}
use Rattle.bits.specs.Rows.{Rows, otherwise, ◌⇒◌⨾◌, first}
use Rattle.masks.specs.Registers.{Regs, D, A, none, all, union}

pub data Category : Type 0 where
  alterable address_register unalterable reserved : Category

abbrev pub is_any : Category → Bool
is_any alterable = true
is_any address_register = true
is_any unalterable = true
is_any reserved = false

abbrev pub is_alterable : Category → Bool
is_alterable alterable = true
is_alterable address_register = true
is_alterable unalterable = false
is_alterable reserved = false

abbrev pub is_an : Category → Bool
is_an alterable = false
is_an address_register = true
is_an unalterable = false
is_an reserved = false

pub record Operand : Type 0 where
  pub category : Category
  pub itself : Regs
  pub pointed : Regs
  pub stepped : Regs

abbrev pub operand : Category → Regs → Regs → Regs → Operand
operand c itself pointed stepped = record {
  category = c;
  itself = itself;
  pointed = pointed;
  stepped = stepped;
}

-- Dn; An; (An); (An)+; -(An); (d16,An); (d8,An,Xn); (xxx).W; (xxx).L; (d16,PC); (d8,PC,Xn); #<data>; no mode
abbrev pub operand_rows : ℕ → ℕ → Rows Operand
operand_rows mode reg =
    eqb mode 0 ⇒ operand alterable (D reg) none none ⨾
    eqb mode 1 ⇒ operand address_register (A reg) none none ⨾
    eqb mode 2 ⇒ operand alterable none (A reg) none ⨾
    eqb mode 3 ⇒ operand alterable none (A reg) (A reg) ⨾
    eqb mode 4 ⇒ operand alterable none (A reg) (A reg) ⨾
    eqb mode 5 ⇒ operand alterable none (A reg) none ⨾
    eqb mode 6 ⇒ operand alterable none all none ⨾
    eqb reg 0 ⇒ operand alterable none none none ⨾
    eqb reg 1 ⇒ operand alterable none none none ⨾
    eqb reg 2 ⇒ operand unalterable none none none ⨾
    eqb reg 3 ⇒ operand unalterable none all none ⨾
    eqb reg 4 ⇒ operand unalterable none none none ⨾
    otherwise (operand reserved none none none)

abbrev pub operand_of : ℕ → ℕ → Operand
operand_of mode reg = first (operand_rows mode reg)

abbrev pub source : ℕ → Operand
source op = operand_of (mode_of op) (reg_of op)

abbrev pub destination : ℕ → Operand
destination op = operand_of (dst_mode_of op) (dst_reg_of op)

pub record Form : Type 0 where
  pub valid : Bool
  pub reads : Regs
  pub writes : Regs

abbrev pub form : Bool → Regs → Regs → Form
form v r w = record { valid = v; reads = r; writes = w }

-- the source is read, and the destination written
abbrev pub move_form : Bool → ℕ → Form
move_form byte op =
    let from = source op in
    let to = destination op in
    form
    (is_any from.category
    && is_alterable to.category
    && not (byte && (is_an from.category || is_an to.category)))
    (union from.itself (union from.pointed to.pointed))
    (union to.itself (union from.stepped to.stepped))

-- the operand is read and written
abbrev pub quick_form : Bool → ℕ → Form
quick_form byte op =
    let to = source op in
    form (is_alterable to.category && not (byte && is_an to.category)) (union to.itself to.pointed)
    (union to.itself to.stepped)

-- and so is EOR's, by a data register
abbrev pub eor_form : ℕ → Form
eor_form op =
    let to = source op in
    form (is_alterable to.category && not (is_an to.category))
    (union (D (dst_reg_of op)) (union to.itself to.pointed))
    (union to.itself to.stepped)

-- MOVE.B; MOVE.L, MOVEA.L; MOVE.W, MOVEA.W; EXTB.L Dy; ADDQ.B, SUBQ.B; ADDQ, SUBQ of words and longs; MOVEQ #d,Dx;
-- CMPM (Ay)+,(Ax)+; EOR
abbrev pub form_rows : ℕ → ℕ → Rows Form
form_rows g op =
    eqb g 1 ⇒ move_form true op ⨾
    eqb g 2 ⇒ move_form false op ⨾
    eqb g 3 ⇒ move_form false op ⨾
    eqb g 4 && matches (bits I O O I I I O O O X X X) op ⇒ form true (D (reg_of op)) (D (reg_of op)) ⨾
    eqb g 5 && matches (bits O O X X X X X X) op ⇒ quick_form true op ⨾
    eqb g 5 && not (matches size11 op) ⇒ quick_form false op ⨾
    eqb g 7 && matches (bits O X X X X X X X X) op ⇒ form true none (D (dst_reg_of op)) ⨾
    eqb g 11
    && matches (bits I X X O O I X X X) op
    && not (matches size11 op) ⇒ form true (union (A (reg_of op)) (A (dst_reg_of op)))
    (union (A (reg_of op)) (A (dst_reg_of op))) ⨾
    eqb g 11 && matches (bits I X X X X X X X X) op && not (matches size11 op) ⇒ eor_form op ⨾
    otherwise (form false none none)

unfoldable pub form_of : ℕ → Form
form_of op = first (form_rows (group_of op) op)
