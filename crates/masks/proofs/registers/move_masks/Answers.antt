-- `registers::move_masks`: the ors are the unions of what source and destination use and define.
use mathlib.Core.Path.{ap₂, ◌∙◌}
use Prim.Native.Nat.{ℕ}
use Rattle.bits.specs.Fields.{mode_of, reg_of, dst_mode_of, dst_reg_of}
use Rattle.masks.specs.Registers.{union, mask_of_regs}
use Rattle.masks.specs.Operands.{operand_sets, register_operand, move_sets, mask_pair}
use Rattle.masks.proofs.RegistersLaws.{mask_or}
use Rattle.masks.proofs.Sets.{pair, pair_uses, pair_defs}
use Rattle.masks.proofs.registers.move_masks.Goals as goal

pub returns : goal.returns
returns c =
    let s = operand_sets (mode_of c.args.op) (reg_of c.args.op) in
    let d = operand_sets (dst_mode_of c.args.op) (dst_reg_of c.args.op) in
    let x = register_operand (dst_mode_of c.args.op) (dst_reg_of c.args.op) in
    let dst = c.ea_masks-dst.ensures ∙ ap₂ (λ (m r : ℕ). mask_pair (operand_sets m r)) c.dst_mode_of-dst_mode.ensures c.dst_reg_of-dst_reg.ensures in
    let extra = c.operand_def-extra_def.ensures ∙ ap₂ (λ (m r : ℕ). mask_of_regs (register_operand m r)) c.dst_mode_of-dst_mode.ensures c.dst_reg_of-dst_reg.ensures in
    pair (move_sets c.args.op)
    (mask_or s.uses d.uses (pair_uses s c.operand_masks-src.ensures) (pair_uses d dst))
    (mask_or (union s.defs d.defs) x (mask_or s.defs d.defs (pair_defs s c.operand_masks-src.ensures) (pair_defs d dst)) extra)
