-- `immediate_060`: the tests are those of the rows after the fourth, in order.
use Rattle.bits.specs.Instructions.{immediate, cmpi}
use Rattle.bits.proofs.Patterns.{hit, miss}
use Rattle.classifier.specs.LowGroups.{group0}
use Rattle.classifier.proofs.low_groups.immediate_060.Goals as goal

pub returns-then-op-eq60 : goal.returns-then-op-eq60
unfolding group0
returns-then-op-eq60 c = rw (hit immediate c.args.op c.if-op-eq60.true) c.poep_only.ensures

pub returns-then-op-eq3072 : goal.returns-then-op-eq3072
unfolding group0
returns-then-op-eq3072 c = rw (miss immediate c.args.op c.if-op-eq60.false, hit cmpi c.args.op c.if-op-eq3072.true) c.alu_of.ensures

pub returns-else-op-eq3072 : goal.returns-else-op-eq3072
unfolding group0
returns-else-op-eq3072 c = rw (miss immediate c.args.op c.if-op-eq60.false, miss cmpi c.args.op c.if-op-eq3072.false) c.alu_of-else-op-eq3072.ensures
