-- `group4_last`: the tests are those of the rows after the thirteenth, in order.
use Rattle.bits.specs.Instructions.{lea, chk, tst}
use Rattle.bits.proofs.Patterns.{hit, miss}
use Rattle.classifier.specs.Group4.{group4}
use Rattle.classifier.proofs.group_four.group4_last.Goals as goal

pub returns-then-op-eq448 : goal.returns-then-op-eq448
unfolding group4
returns-then-op-eq448 c = rw (hit lea c.args.op c.if-op-eq448.true) c.lea_060.ensures

pub returns-then-op-eq384 : goal.returns-then-op-eq384
unfolding group4
returns-then-op-eq384 c = rw (miss lea c.args.op c.if-op-eq448.false, hit chk c.args.op c.if-op-eq384.true) c.poep_only.ensures

pub returns-then-op-eq2560 : goal.returns-then-op-eq2560
unfolding group4
returns-then-op-eq2560 c = rw (miss lea c.args.op c.if-op-eq448.false, miss chk c.args.op c.if-op-eq384.false, hit tst c.args.op c.if-op-eq2560.true) c.alu_of.ensures

pub returns : goal.returns
unfolding group4
returns c = rw (miss lea c.args.op c.if-op-eq448.false, miss chk c.args.op c.if-op-eq384.false, miss tst c.args.op c.if-op-eq2560.false) c.poep_only-2.ensures
