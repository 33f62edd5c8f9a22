-- `add_sub`: the tests are those of the rows, in order.
use Rattle.bits.specs.Instructions.{addx_subx, size11}
use Rattle.bits.proofs.Patterns.{hit, miss}
use Rattle.classifier.specs.HighGroups.{add_sub, group11}
use Rattle.classifier.proofs.high_groups.add_sub.Goals as goal

pub returns-then-op-eq256 : goal.returns-then-op-eq256
unfolding add_sub
returns-then-op-eq256 c = rw (hit addx_subx c.args.op c.if-op-eq256.true) c.addx_subx.ensures

pub returns-then-op-eq192 : goal.returns-then-op-eq192
unfolding add_sub
returns-then-op-eq192 c = rw (miss addx_subx c.args.op c.if-op-eq256.false, hit size11 c.args.op c.if-op-eq192.true) c.alu_of.ensures

pub returns-else-op-eq192 : goal.returns-else-op-eq192
unfolding add_sub group11
returns-else-op-eq192 c = rw (miss addx_subx c.args.op c.if-op-eq256.false, miss size11 c.args.op c.if-op-eq192.false) c.read_or_modified.ensures
