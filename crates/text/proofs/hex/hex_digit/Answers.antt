-- `hex_digit`: by the two cases.
use native.Mathlib.Omega.{arith}
use borrow.Author.Tests.{lt-ltb, le-ltb}
use Rattle.text.specs.Hex.{hex_digit}
use Rattle.text.proofs.hex.hex_digit.Goals as goal

pub returns-then-low-lt10 : goal.returns-then-low-lt10
unfolding hex_digit
returns-then-low-lt10 c = simp (lt-ltb _ 10 c.if-low-lt10.true)

pub returns-else-low-lt10 : goal.returns-else-low-lt10
unfolding hex_digit
returns-else-low-lt10 c = simp (le-ltb _ 10 c.if-low-lt10.false) (omega arith)
