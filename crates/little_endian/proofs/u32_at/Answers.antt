-- `u32_at`: the bytes are the number's, the lowest first.
use mathlib.Core.Path.{◌≡◌}
use Prim.Native.Nat.{◌+◌}
use native.Mathlib.Omega.{arith}
use Rattle.little_endian.specs.Numbers.{number_at}
use Rattle.little_endian.proofs.u32_at.Goals as goal

pub returns : goal.returns
unfolding number_at
returns c =
    let two : c.args.at + 1 + 1 ≡ c.args.at + 2 = omega arith in
    let three : c.args.at + 2 + 1 ≡ c.args.at + 3 = omega arith in
    rw (two, three) (omega (arith, c.from_le_bytes.ensures))
