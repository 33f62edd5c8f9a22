-- `image_tags`: after i turns the first i tags are read, the rest are 0.
use mathlib.Core.Path.{◌≡◌}
use Rattle.image.specs.Parts.{image_tags_of}
use Rattle.bits.proofs.Filling.{filled}
use Rattle.image.proofs.read.image_tags.Given as goal

abbrev pub invariant-loop-i : goal.invariant-loop-i
invariant-loop-i l = l.tag-items ≡ filled l.i (image_tags_of l.bytes) l.initial.tag-items
