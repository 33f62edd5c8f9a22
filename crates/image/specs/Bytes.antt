-- Document 01, "Records and images": "256 tags, 256 bytes, then open (0 or 1), def mask 2, bits (0 CCR, 1 memory, 2
-- cached)"; and document 02, R-6: "Images are now written as kind 17, payload 1,290, 1,294 bytes in all: the address
-- (4) and opcode (2) follow the old fields." Here its parts as bytes. The Rust has none.
--
--   bits_of w            ==  the bits of a window
--                            "bits (0 CCR, 1 memory, 2 cached)"
--   header_bytes         ==  payload length 1,290 and kind 17
--                            "A record is a 2-byte payload length, a 2-byte kind, then the payload"
--   window_bytes w       ==  the old fields of a window, in 1, 2 and 1 bytes
--                            "then open (0 or 1), def mask 2, bits"
--   head_bytes w         ==  its head's address and opcode
--                            "the address (4) and opcode (2) follow the old fields"
--   image_bytes ts ss w  ==  the image of the tags ts, the slots' bytes ss and the window w: header, tags of 4 bytes,
--                            slots of 1 byte, window, head
use Rattle.std.specs.Prelude.{ℕ, List, [], ◌∷◌, ◌++◌}
use Rattle.bits.specs.Words.{num, packed_bits}
use Rattle.little_endian.specs.Numbers.{bytes_of, bytes_of_each}
use Rattle.window.specs.declared.Window.{Window}
use Rattle.image.specs.ImageLayout.{image_payload, image_kind}

unfoldable pub bits_of : Window → ℕ
bits_of w = packed_bits (w.ccr ∷ w.mem ∷ w.warm ∷ [])

abbrev pub header_bytes : List ℕ
header_bytes = bytes_of 2 image_payload ++ bytes_of 2 image_kind

abbrev pub window_bytes : Window → List ℕ
window_bytes w = bytes_of 1 (num w.opened) ++ bytes_of 2 w.defs ++ bytes_of 1 (bits_of w)

abbrev pub head_bytes : Window → List ℕ
head_bytes w = bytes_of 4 w.address ++ bytes_of 2 w.op

abbrev pub image_bytes : List ℕ → List ℕ → Window → List ℕ
image_bytes tags slots w =
    header_bytes ++ bytes_of_each 4 tags ++ bytes_of_each 1 slots ++ window_bytes w ++ head_bytes w
