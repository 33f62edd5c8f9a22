-- `registers::quick_masks`: the operand, and the register that it itself is.
use mathlib.Core.Path.{ap₂, ◌∙◌}
use Prim.Native.Nat.{ℕ}
use Rattle.bits.specs.Fields.{mode_of, reg_of}
use Rattle.masks.specs.Registers.{mask_of_regs}
use Rattle.masks.specs.Operands.{operand_sets, register_operand}
use Rattle.masks.proofs.Sets.{pair_and_defs}
use Rattle.masks.proofs.registers.quick_masks.Goals as goal

pub returns : goal.returns
returns c =
    let def =
    c.operand_def-operand_def.ensures ∙ ap₂ (λ (m r : ℕ). mask_of_regs (register_operand m r)) c.mode_of.ensures c.reg_of.ensures in
    pair_and_defs (operand_sets (mode_of c.args.op) (reg_of c.args.op)) (register_operand (mode_of c.args.op) (reg_of c.args.op)) c.operand_masks-ea.ensures def
