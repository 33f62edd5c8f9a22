-- `packed_below`: the shifted number leaves the lowest bit free.
use mathlib.Core.Path.{◌≡◌, ap₂, ◌∙◌}
use Prim.Native.Nat.{◌+◌, ◌*◌, ◌%◌}
use native.Mathlib.Omega.{arith}
use lib.Bits.{bit_or, or_shifted}
use Rattle.bits.specs.Words.{num}
use Rattle.bits.proofs.Words.{num_small, num_byte}
use Rattle.state.proofs.flags.packed_below.Goals as goal

pub returns : goal.returns
returns c =
    let up : c.args.above * 2 % 65536 ≡ (c.args.above % 32768) * 2 = omega arith in
    let swap : (c.args.above % 32768) * 2 + num c.args.b ≡ num c.args.b + 2 * (c.args.above % 32768) = omega arith in
    ap₂ bit_or up (c.from.ensures ∙ num_byte c.args.b) ∙ or_shifted (c.args.above % 32768) 1 (num c.args.b) (num_small c.args.b) ∙ swap
