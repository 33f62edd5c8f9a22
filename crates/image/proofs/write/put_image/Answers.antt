-- `put_image`: the parts are put one behind the other, the window as it is read.
use mathlib.Core.Path.{◌≡◌}
use lib.ListN.{length}
use Rattle.image.specs.Image.{image_of}
use Rattle.image.proofs.ImageBytesWriting.{parts_put}
use borrow.Author.Rules.{rules}
use Rattle.image.proofs.write.put_image.Goals as goal

pub returns : goal.returns
unfolding image_of
returns c =
    let cache = c.args.timing.cache in
    let t : length cache.tags ≡ 256 = search rules in
    let s : length cache.state ≡ 256 = search rules in
    let o : length c.args.out.now ≡ 1294 = search rules in
    parts_put c.args.out.now o cache.tags cache.state t s
    c.seen-window.ensures
    c.put_image_header.ensures
    c.put_image_tags.ensures
    c.put_image_slots.ensures
    c.put_image_window.ensures
    c.put_image_head.ensures
