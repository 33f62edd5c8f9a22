-- `registers::full`: FFFF is the mask of every register.
use Rattle.masks.specs.Operands.{undecoded}
use Rattle.masks.proofs.RegistersLaws.{mask_all}
use Rattle.masks.proofs.Sets.{pair}
use Rattle.masks.proofs.registers.full.Goals as goal

pub returns : goal.returns
returns c = pair undecoded mask_all mask_all
