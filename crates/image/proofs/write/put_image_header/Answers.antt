-- `put_image_header`: payload length and kind are put one behind the other.
use mathlib.Core.Path.{ap, ◌∙◌}
use mathlib.Core.List.{List}
use Prim.Native.Nat.{ℕ}
use native.Mathlib.Omega.{arith}
use Rattle.little_endian.specs.Numbers.{bytes_of, put_at}
use Rattle.image.proofs.ImageBytesWriting.{header_put}
use Rattle.image.proofs.write.put_image_header.Goals as goal

pub returns : goal.returns
returns c = c.put_u16-2.ensures ∙ ap (λ (s : List ℕ). put_at s 2 (bytes_of 2 17)) c.put_u16.ensures ∙ header_put c.args.out.now (omega arith)
