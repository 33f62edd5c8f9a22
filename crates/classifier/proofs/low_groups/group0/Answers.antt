-- `group0`: the tests are those of the rows, in order.
use Rattle.bits.specs.Instructions.{bit_dynamic, bit_static, cmp2, cas}
use Rattle.bits.proofs.Patterns.{hit, miss}
use Rattle.classifier.specs.LowGroups.{group0}
use Rattle.classifier.proofs.low_groups.group0.Goals as goal

pub returns-then-op-eq256 : goal.returns-then-op-eq256
unfolding group0
returns-then-op-eq256 c = rw (hit bit_dynamic c.args.op c.if-op-eq256.true) c.bit_operation.ensures

pub returns-then-op-eq2048 : goal.returns-then-op-eq2048
unfolding group0
returns-then-op-eq2048 c = rw (miss bit_dynamic c.args.op c.if-op-eq256.false, hit bit_static c.args.op c.if-op-eq2048.true) c.bit_operation-then-op-eq2048.ensures

pub returns-then-op-eq192 : goal.returns-then-op-eq192
unfolding group0
returns-then-op-eq192 c =
    rw (
      miss bit_dynamic c.args.op c.if-op-eq256.false,
      miss bit_static c.args.op c.if-op-eq2048.false,
      hit cmp2 c.args.op c.if-op-eq192.true,
    )
    c.unclassified.ensures

pub returns-then-op-eq2240 : goal.returns-then-op-eq2240
unfolding group0
returns-then-op-eq2240 c =
    rw (
      miss bit_dynamic c.args.op c.if-op-eq256.false,
      miss bit_static c.args.op c.if-op-eq2048.false,
      miss cmp2 c.args.op c.if-op-eq192.false,
      hit cas c.args.op c.if-op-eq2240.true,
    )
    c.unclassified-then-op-eq2240.ensures

pub returns-else-op-eq2240 : goal.returns-else-op-eq2240
unfolding group0
returns-else-op-eq2240 c =
    rw (
      miss bit_dynamic c.args.op c.if-op-eq256.false,
      miss bit_static c.args.op c.if-op-eq2048.false,
      miss cmp2 c.args.op c.if-op-eq192.false,
      miss cas c.args.op c.if-op-eq2240.false,
    )
    c.immediate_060.ensures
