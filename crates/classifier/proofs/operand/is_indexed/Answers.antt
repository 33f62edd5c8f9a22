-- `is_indexed`: the table agrees with the rule at all six bits.
use mathlib.Core.Path.{refl}
use Rattle.classifier.specs.Entry.{is_indexed}
use Rattle.classifier.proofs.Tables.{looked_up}
use Rattle.classifier.proofs.operand.is_indexed.Goals as goal

pub returns : goal.returns
returns c = looked_up 0x08FF000000000000 is_indexed refl c.args.six c.requires
