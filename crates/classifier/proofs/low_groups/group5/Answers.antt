-- `group5`: the tests are those of the rows, in order.
use Rattle.bits.specs.Instructions.{dbcc, size11}
use Rattle.bits.proofs.Patterns.{hit, miss}
use Rattle.classifier.specs.LowGroups.{group5}
use Rattle.classifier.proofs.low_groups.group5.Goals as goal

pub returns-then-op-eq200 : goal.returns-then-op-eq200
unfolding group5
returns-then-op-eq200 c = rw (hit dbcc c.args.op c.if-op-eq200.true) c.poep_only.ensures

pub returns-then-op-eq192 : goal.returns-then-op-eq192
unfolding group5
returns-then-op-eq192 c = rw (miss dbcc c.args.op c.if-op-eq200.false, hit size11 c.args.op c.if-op-eq192.true) c.scc.ensures

pub returns-else-op-eq192 : goal.returns-else-op-eq192
unfolding group5
returns-else-op-eq192 c = rw (miss dbcc c.args.op c.if-op-eq200.false, miss size11 c.args.op c.if-op-eq192.false) c.alu_of.ensures
