-- `u16_at`: the bytes are the number's, the lowest first.
use native.Mathlib.Omega.{arith}
use Rattle.little_endian.specs.Numbers.{number_at}
use Rattle.little_endian.proofs.u16_at.Goals as goal

pub returns : goal.returns
unfolding number_at
returns c = omega (arith, c.from_le_bytes.ensures)
