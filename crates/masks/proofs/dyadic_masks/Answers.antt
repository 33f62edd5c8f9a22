-- `masks::dyadic_masks`: what is selected by the opmode is the definition's row.
use mathlib.Core.Path.{ap}
use Prim.Native.Nat.{ℕ, ◌+◌}
use native.Mathlib.Omega.{arith}
use Rattle.bits.specs.Fields.{mode_of, reg_of, dst_mode_of, dst_reg_of}
use Rattle.masks.specs.Operands.{operand_sets}
use Rattle.masks.specs.Masks.{dyadic_sets}
use Rattle.masks.proofs.RegistersLaws.{mask_only}
use Rattle.masks.proofs.Sets.{pair_uses, pair_defs}
use Rattle.masks.proofs.Opmodes.{opmode_masks}
use Rattle.masks.proofs.dyadic_masks.Goals as goal

pub returns : goal.returns
unfolding dyadic_sets
returns c =
    let s = operand_sets (mode_of c.args.op) (reg_of c.args.op) in
    opmode_masks s (dst_reg_of c.args.op) (pair_uses s c.operand_masks-ea.ensures) (pair_defs s c.operand_masks-ea.ensures)
    (mask_only (8 + dst_reg_of c.args.op) (ap (λ (n : ℕ). 8 + n) c.dst_reg_of-dn.ensures) (omega arith)) (mask_only (dst_reg_of c.args.op) c.dst_reg_of-dn.ensures (omega arith))
    (dst_mode_of c.args.op) (omega arith)
    (rw c.dst_mode_of-opmode.ensures at c.select-own.ensures) (rw c.dst_mode_of-opmode.ensures at c.select-kept.ensures) (rw c.dst_mode_of-opmode.ensures at c.select-defined.ensures)
