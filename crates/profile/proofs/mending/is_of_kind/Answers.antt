-- `is_of_kind`: the kind's bits, and not the pattern of size 11.
use mathlib.Core.Path.{ap}
use mathlib.Core.Bool.{not}
use lib.Bits.{bit_and}
use borrow.Author.Tests.{eq-eqb}
use Rattle.bits.specs.Instructions.{size11}
use Rattle.bits.proofs.Patterns.{masked}
use Rattle.profile.proofs.mending.is_of_kind.Goals as goal

pub returns-then-op-kind : goal.returns-then-op-kind
returns-then-op-kind c = rw (eq-eqb (bit_and c.args.op 0xF138) c.args.kind c.if-op-kind.true) (ap not (masked size11 c.args.op))
