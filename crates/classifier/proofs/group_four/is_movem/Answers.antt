-- `is_movem`: one pattern, and not the other.
use mathlib.Core.Path.{ap}
use mathlib.Core.Bool.{not}
use borrow.Author.Tests.{ne_eqb}
use Rattle.bits.specs.Instructions.{movem, data_register}
use Rattle.bits.proofs.Patterns.{masked, hit, miss}
use Rattle.classifier.proofs.group_four.is_movem.Goals as goal

pub returns-then-op-eq2176 : goal.returns-then-op-eq2176
returns-then-op-eq2176 c = rw (hit movem c.args.op c.if-op-eq2176.true) (ap not (masked data_register c.args.op))

pub returns-else-op-eq2176 : goal.returns-else-op-eq2176
returns-else-op-eq2176 c = rw (miss movem c.args.op c.if-op-eq2176.false) (ne_eqb _ _ c.if-op-eq2176.false)
