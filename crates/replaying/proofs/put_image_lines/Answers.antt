-- `put_image_lines`: the image's bytes, then their rows.
use mathlib.Core.Path.{◌≡◌, refl}
use lib.ListN.{length}
use Rattle.replaying.proofs.Replaying.{image_fills}
use borrow.Author.Rules.{rules}
use Rattle.replaying.proofs.put_image_lines.Goals as goal
use Rattle.replaying.proofs.put_image_lines.Goals.{Start}

tags : (c : Start) → length c.args.timing.cache.tags ≡ 256
tags c = search rules

slots : (c : Start) → length c.args.timing.cache.state ≡ 256
slots c = search rules

pub returns : goal.returns
returns c = rw (image_fills _ _ refl (tags (goal.at.returns c).Start) (slots (goal.at.returns c).Start) c.image_write.ensures) at c.put_rows.ensures
