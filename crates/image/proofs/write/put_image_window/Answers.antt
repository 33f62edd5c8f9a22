-- `put_image_window`: open, def mask and bits are put one behind the other.
use mathlib.Core.Path.{ap, ◌∙◌}
use Rattle.bits.proofs.Words.{num_byte}
use mathlib.Core.List.{List}
use Prim.Native.Nat.{ℕ}
use native.Mathlib.Omega.{arith}
use lib.ListN.{set}
use Rattle.window.specs.declared.Window.{Window}
use Rattle.image.proofs.ImageBytesWriting.{window_put}
use borrow.Author.Rules.{rules}
use Rattle.image.proofs.write.put_image_window.Goals as goal

pub returns : goal.returns
returns c =
    let w : Window = c.args.w in
    ap (λ (l : List ℕ). set l 1287 c.bits_of.result) c.put_u16.ensures
    ∙ window_put c.args.out.now (omega arith) c.from.result w.defs c.bits_of.result (search rules) (search rules)
    ∙ rw (c.from.ensures ∙ num_byte w.opened, c.bits_of.ensures)
