-- `group11`: the tests are those of the rows, in order.
use Rattle.bits.specs.Instructions.{size11}
use Rattle.bits.proofs.Patterns.{hit, miss}
use Rattle.classifier.specs.HighGroups.{group11}
use Rattle.classifier.proofs.high_groups.group11.Goals as goal

pub returns-then-op-eq192 : goal.returns-then-op-eq192
unfolding group11
returns-then-op-eq192 c = rw (hit size11 c.args.op c.if-op-eq192.true) c.alu_of.ensures

pub returns-else-op-eq192 : goal.returns-else-op-eq192
unfolding group11
returns-else-op-eq192 c = rw (miss size11 c.args.op c.if-op-eq192.false) c.read_or_modified.ensures
