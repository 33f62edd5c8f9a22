-- `is_memory`: the table agrees with the rule at all six bits.
use mathlib.Core.Path.{refl}
use Rattle.classifier.specs.Entry.{is_memory}
use Rattle.classifier.proofs.Tables.{looked_up}
use Rattle.classifier.proofs.operand.is_memory.Goals as goal

pub returns : goal.returns
returns c = looked_up 0xEFFFFFFFFFFF0000 is_memory refl c.args.six c.requires
