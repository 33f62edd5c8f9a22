-- `put_image_tags`: after i turns the first i tags stand one behind the other from the place 4 on.
use mathlib.Core.Path.{◌≡◌, ◌∙◌}
use native.Mathlib.Omega.{arith}
use lib.ListN.{length}
use borrow.Author.Rules.{rules}
use Rattle.little_endian.proofs.Loops.{put_none_yet, put_next}
use Rattle.image.proofs.write.put_image_tags.Goals as goal

pub loop-i-init : goal.loop-i-init
loop-i-init c = (search rules, put_none_yet 4 4 c.args.out.now)

pub loop-i-preserved : goal.loop-i-preserved
loop-i-preserved c =
    let l = c.loop-i in
    let long : length c.args.tags ≡ 256 = search rules in
    let next = put_next 4 4 c.args.out.now c.args.tags (omega arith) l.i l.out l.invariant.1 (omega arith) in
    (search rules, c.put_u32.ensures ∙ next)
