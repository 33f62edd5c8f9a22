-- `group14`: the tests are those of the rows, in order.
use Rattle.bits.specs.Instructions.{bit_field, size11, rox}
use Rattle.bits.proofs.Patterns.{hit, miss}
use Rattle.classifier.specs.HighGroups.{group14}
use Rattle.classifier.proofs.high_groups.group14.Goals as goal

pub returns-then-op-eq2240 : goal.returns-then-op-eq2240
unfolding group14
returns-then-op-eq2240 c = rw (hit bit_field c.args.op c.if-op-eq2240.true) c.unclassified.ensures

pub returns-then-op-eq192 : goal.returns-then-op-eq192
unfolding group14
returns-then-op-eq192 c = rw (miss bit_field c.args.op c.if-op-eq2240.false, hit size11 c.args.op c.if-op-eq192.true) c.new.ensures

pub returns-then-op-eq16 : goal.returns-then-op-eq16
unfolding group14
returns-then-op-eq16 c =
    rw (
      miss bit_field c.args.op c.if-op-eq2240.false,
      miss size11 c.args.op c.if-op-eq192.false,
      hit rox c.args.op c.if-op-eq16.true,
    )
    c.poep_only.ensures

pub returns-else-op-eq16 : goal.returns-else-op-eq16
unfolding group14
returns-else-op-eq16 c =
    rw (
      miss bit_field c.args.op c.if-op-eq2240.false,
      miss size11 c.args.op c.if-op-eq192.false,
      miss rox c.args.op c.if-op-eq16.false,
    )
    c.alu.ensures
