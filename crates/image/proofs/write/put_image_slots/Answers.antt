-- `put_image_slots`: the bytes that are copied are those of the numbers of one byte.
use mathlib.Core.Path.{◌≡◌, sym, ◌∙◌}
use Prim.Native.Nat.{ℕ}
use native.Mathlib.Omega.{arith}
use lib.ListN.{length, get_or}
use mir.Syntax.{w8}
use mir.Val.{Fits}
use borrow.Author.Rules.{rules}
use Rattle.little_endian.specs.Numbers.{bytes_of_each}
use Rattle.little_endian.proofs.Numbers.{copy_puts}
use Rattle.little_endian.proofs.Loops.{bytes_each}
use Rattle.little_endian.proofs.Each.{each_length}
use Rattle.image.proofs.write.put_image_slots.Goals as goal

pub returns : goal.returns
returns c =
    let slots = c.args.slots in
    let long : length slots ≡ 256 = search rules in
    let fits : (i : ℕ) → Fits w8 (get_or c.args.slots i 0) = λ i. search rules in
    copy_puts c.args.out.now 1028 256 (bytes_of_each 1 slots) _ (c.copy_from_slice.ensures.after ∙ sym (bytes_each slots (λ i. (fits i).fits))) (each_length 1 slots ∙ omega arith)
