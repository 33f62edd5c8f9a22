-- `registers::operand_def`: the selection is the register that the definition gives at each mode.
use Rattle.masks.proofs.Modes.{mode_register}
use Rattle.masks.proofs.registers.operand_def.Goals as goal

pub returns : goal.returns
returns c = mode_register c.args.mode c.args.reg c.register_of.ensures c.select.ensures
