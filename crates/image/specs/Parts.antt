-- Document 01, "Records and images": "256 tags, 256 bytes, then open (0 or 1), def mask 2, bits (0 CCR, 1 memory, 2
-- cached)"; and document 02, R-6: "the address (4) and opcode (2) follow the old fields. Old kind 16 images are still
-- read, head fields zero." Here bytes as the parts of a state. The Rust has none.
--
--   image_tags_of s    ==  the 256 tags
--   image_slots_of s   ==  the 256 bytes of the slots
--   open_at s          ==  open, one byte
--   def_mask_at s      ==  the def mask, 2 bytes
--   bits_at s          ==  the bits, one byte
--   has_head s         ==  the image has head fields: it has the 1,294 bytes of kind 17
--   address_at s       ==  the head's address, 4 bytes; zero where the image has no head fields
--   opcode_at s        ==  the head's opcode, 2 bytes; zero where the image has no head fields
--   image_window_of s  ==  the window: open is 1; the def mask; "0 CCR, 1 memory, 2 cached"; the head's opcode and
--                          address
use Rattle.std.specs.Prelude.{ℕ, Bool, cond, List, eqb, length}
use Rattle.bits.specs.Words.{bit}
use Rattle.little_endian.specs.Numbers.{number_at, numbers_at}
use Rattle.window.specs.declared.Window.{Window}
use Rattle.image.specs.ImageLayout.{
  image_length,
  tags_place,
  slots_place,
  open_place,
  def_mask_place,
  bits_place,
  address_place,
  opcode_place,
}

abbrev pub image_tags_of : List ℕ → List ℕ
image_tags_of s = numbers_at 256 4 s tags_place

abbrev pub image_slots_of : List ℕ → List ℕ
image_slots_of s = numbers_at 256 1 s slots_place

abbrev pub open_at : List ℕ → ℕ
open_at s = number_at 1 s open_place

abbrev pub def_mask_at : List ℕ → ℕ
def_mask_at s = number_at 2 s def_mask_place

abbrev pub bits_at : List ℕ → ℕ
bits_at s = number_at 1 s bits_place

abbrev pub has_head : List ℕ → Bool
has_head s = eqb (length s) image_length

abbrev pub address_at : List ℕ → ℕ
address_at s = cond (has_head s) (number_at 4 s address_place) 0

abbrev pub opcode_at : List ℕ → ℕ
opcode_at s = cond (has_head s) (number_at 2 s opcode_place) 0

unfoldable pub image_window_of : List ℕ → Window
image_window_of s =
    record {
      opened = eqb (open_at s) 1;
      defs = def_mask_at s;
      ccr = bit 0 (bits_at s);
      mem = bit 1 (bits_at s);
      warm = bit 2 (bits_at s);
      op = opcode_at s;
      address = address_at s;
    }
