-- `masks::shift_masks`: the register shifted and, where bit 5 is set, the one that holds the count; memory is left undecoded.
use mathlib.Core.Path.{◌≡◌, refl, sym, ap, ◌∙◌}
use mathlib.Core.Bool.{not}
use Prim.Native.Nat.{ℕ}
use native.Mathlib.Omega.{arith}
use lib.Bits.{bit_and}
use borrow.Author.Tests.{eq-eqb, ne_eqb}
use Rattle.bits.specs.Fields.{reg_of, dst_reg_of}
use Rattle.bits.specs.Words.{bit}
use Rattle.bits.proofs.Patterns.{hit, miss}
use Rattle.bits.proofs.Rows.{Left, begin, skip, found, last}
use Rattle.bits.proofs.Words.{meets_bit}
use Rattle.masks.specs.Registers.{D, union, mask_of_regs}
use Rattle.bits.specs.Instructions.{size11}
use Rattle.masks.specs.Operands.{uses◌defines◌, mask_pair}
use Rattle.masks.specs.Masks.{count_uses, shift_rows, shift_sets}
use Rattle.masks.proofs.RegistersLaws.{mask_or, mask_only}
use Rattle.masks.proofs.Sets.{pair, mask_where, mask_unless}
use Rattle.masks.proofs.shift_masks.Goals as goal
use Rattle.masks.proofs.shift_masks.Goals.{else-op-ne0, then-op-ne0}

rows : (op : ℕ) → Left (shift_sets op) (shift_rows op)
unfolding shift_sets
rows op = begin (shift_rows op)

pub returns-after-op-ne0 : goal.returns-after-op-ne0
returns-after-op-ne0 c =
    let dn = mask_only (reg_of c.args.op) c.reg_of-dn.ensures (omega arith) in
    let n = D (dst_reg_of c.args.op) in
    let by = sym (meets_bit c.args.op 5) in
    let count : c.if-op-ne0.count_use ≡ mask_of_regs (count_uses c.args.op) =
    (elim c.if-op-ne0.branch [ then-op-ne0 k ↦ k.count_use-is ∙ mask_where (bit 5 c.args.op) n (by ∙ ap not (ne_eqb (bit_and c.args.op 32) 0 k.if-op-ne0.true)) (mask_only (dst_reg_of c.args.op) k.dst_reg_of.ensures (omega arith)) | else-op-ne0 k ↦ k.count_use-is ∙ mask_unless (bit 5 c.args.op) n (by ∙ ap not (eq-eqb (bit_and c.args.op 32) 0 k.if-op-ne0.false)) ]) in
    pair (uses union (D (reg_of c.args.op)) (count_uses c.args.op) defines D (reg_of c.args.op)) (mask_or (D (reg_of c.args.op)) (count_uses c.args.op) dn count) dn
    ∙ ap mask_pair (last (skip (rows c.args.op) (miss size11 c.args.op c.if-op-ne192.true)) refl)

pub returns-else-op-ne192 : goal.returns-else-op-ne192
returns-else-op-ne192 c = c.full.ensures ∙ ap mask_pair (found (rows c.args.op) (hit size11 c.args.op c.if-op-ne192.false) refl)
