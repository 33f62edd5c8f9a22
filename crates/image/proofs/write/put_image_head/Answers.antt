-- `put_image_head`: address and opcode are put one behind the other.
use mathlib.Core.Path.{ap, ◌∙◌}
use mathlib.Core.List.{List}
use Prim.Native.Nat.{ℕ}
use native.Mathlib.Omega.{arith}
use Rattle.little_endian.specs.Numbers.{bytes_of, put_at}
use Rattle.image.proofs.ImageBytesWriting.{head_put}
use Rattle.image.proofs.write.put_image_head.Goals as goal

pub returns : goal.returns
returns c = c.put_u16.ensures ∙ ap (λ (s : List ℕ). put_at s 1292 (bytes_of 2 c.args.w.op)) c.put_u32.ensures ∙ head_put c.args.out.now (omega arith) c.args.w.address c.args.w.op
