-- `image_write`: under 1,294 bytes nothing is put; else the image is put.
use mathlib.Core.Path.{◌≡◌}
use lib.ListN.{length}
use borrow.Author.Rules.{rules}
use Rattle.image.proofs.Writing.{image_short, image_written}
use Rattle.image.proofs.image_write.Goals as goal

pub returns-in_default : goal.returns-in_default
returns-in_default c = image_short c.args.timing c.args.out.now c.in_default.ensures.cases

pub returns : goal.returns
returns c =
    let cache = c.args.timing.cache in
    let tags : length cache.tags ≡ 256 = search rules in
    let slots : length cache.state ≡ 256 = search rules in
    image_written c.args.timing c.args.out.now c.in-Some.ensures.cases.enough tags slots c.put_image.ensures
