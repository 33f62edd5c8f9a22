-- `put_closing`: the line in one piece.
use native.Mathlib.Omega.{arith}
use mathlib.Core.Path.{ap}
use lib.ListN.{length}
use Rattle.rule_text.proofs.Lengths.{closing_is}
use Rattle.rule_text.proofs.lines.put_closing.Goals as goal

pub put_bytes-requires : goal.put_bytes-requires
put_bytes-requires c = omega (arith, ap length closing_is, c.requires)

pub returns : goal.returns
returns c = rw closing_is c.put_bytes.ensures
