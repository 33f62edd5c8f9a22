-- `image_tags`: after i turns the first i tags are read, the rest are 0.
use native.Mathlib.Omega.{arith}
use mathlib.Core.Path.{refl}
use Rattle.little_endian.proofs.Loops.{read_next, read_all}
use Rattle.image.proofs.read.image_tags.Goals as goal

pub loop-i-preserved : goal.loop-i-preserved
loop-i-preserved c =
    let l = c.loop-i in
    let u32_at = c.u32_at in
    read_next 256 4 c.args.bytes.now 4 _ refl l.i l.tag-items l.invariant u32_at.result (omega arith) u32_at.ensures

pub returns : goal.returns
returns c =
    let l = c.loop-i in
    read_all 256 4 c.args.bytes.now 4 _ refl l.i l.tag-items l.invariant (omega arith)
