-- `image_window`: the byte at 1,284, the two at 1,285, the bits of the byte at 1,287, and the head's fields.
use Prim.Native.Nat.{ℕ}
use lib.ListN.{get_or}
use Rattle.bits.proofs.Words.{meets_bit}
use Rattle.image.specs.Parts.{image_window_of}
use Rattle.little_endian.proofs.Loops.{byte_at}
use Rattle.image.proofs.read.image_window.Goals as goal

pub returns : goal.returns
unfolding image_window_of
returns c =
    let bits : ℕ = get_or c.args.bytes.now 1287 0 in
    simp (
      byte_at,
      ← c.u16_at-defs.ensures,
      ← meets_bit bits 0,
      ← meets_bit bits 1,
      ← meets_bit bits 2,
      ← c.head_opcode-op.ensures,
      ← c.head_address-address.ensures,
    )
