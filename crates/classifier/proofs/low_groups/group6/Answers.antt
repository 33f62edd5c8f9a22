-- `group6`: the tests are those of the rows, in order.
use Rattle.bits.specs.Instructions.{bra}
use Rattle.bits.proofs.Patterns.{hit, miss}
use Rattle.classifier.specs.LowGroups.{group6}
use Rattle.classifier.proofs.low_groups.group6.Goals as goal

pub returns-then-op-eq0 : goal.returns-then-op-eq0
unfolding group6
returns-then-op-eq0 c = rw (hit bra c.args.op c.if-op-eq0.true) c.poep_only.ensures

pub returns-else-op-eq0 : goal.returns-else-op-eq0
unfolding group6
returns-else-op-eq0 c = rw (miss bra c.args.op c.if-op-eq0.false) c.poep_only-else-op-eq0.ensures
