-- `is_nbcd_or_ext`: one pattern, and not the other.
use mathlib.Core.Path.{ap}
use mathlib.Core.Bool.{not}
use borrow.Author.Tests.{ne_eqb}
use Rattle.bits.specs.Instructions.{nbcd_ext, size01}
use Rattle.bits.proofs.Patterns.{masked, hit, miss}
use Rattle.classifier.proofs.group_four.is_nbcd_or_ext.Goals as goal

pub returns-then-op-eq2048 : goal.returns-then-op-eq2048
returns-then-op-eq2048 c = rw (hit nbcd_ext c.args.op c.if-op-eq2048.true) (ap not (masked size01 c.args.op))

pub returns-else-op-eq2048 : goal.returns-else-op-eq2048
returns-else-op-eq2048 c = rw (miss nbcd_ext c.args.op c.if-op-eq2048.false) (ne_eqb _ _ c.if-op-eq2048.false)
