-- `image_slots`: the bytes that stand there are the numbers of one byte that do.
use mathlib.Core.Path.{sym, ◌∙◌}
use native.Mathlib.Omega.{arith}
use Rattle.little_endian.proofs.Loops.{bytes_at}
use Rattle.image.proofs.read.image_slots.Goals as goal

pub returns : goal.returns
returns c = c.copy_from_slice.ensures.after ∙ sym (bytes_at 256 c.args.bytes.now 1028 (omega arith))
