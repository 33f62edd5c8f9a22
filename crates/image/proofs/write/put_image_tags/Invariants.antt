-- `put_image_tags`: after i turns the first i tags stand one behind the other from the place 4 on.
use mathlib.Core.Path.{◌≡◌}
use lib.ListN.{length, take}
use Rattle.little_endian.specs.Numbers.{put_at, bytes_of_each}
use Rattle.image.proofs.write.put_image_tags.Given as goal

abbrev pub invariant-loop-i : goal.invariant-loop-i
invariant-loop-i l =
    (length l.out ≡ 1294) × (l.out ≡ put_at l.initial.out 4 (bytes_of_each 4 (take l.i l.fn.tags)))
