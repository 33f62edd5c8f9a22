-- `registers::ea_masks`: the selections are the row that the definition gives at each mode.
use Rattle.masks.proofs.Modes.{mode_masks}
use Rattle.masks.proofs.registers.ea_masks.Goals as goal

pub returns : goal.returns
returns c =
    mode_masks c.args.mode c.args.reg c.register_of-own.ensures
    c.select.ensures c.select-2.ensures c.select-3.ensures c.select-4.ensures
