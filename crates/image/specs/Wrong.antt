-- Document 01, "Records and images": the table of refusals, what is wrong with an image of 1,288 bytes, and document
-- 02, R-6, with one of 1,294. The Rust has none.
--
--   payload_for s    ==  the payload length that matches the length of s: 1,290 for 1,294 bytes, else 1,284
--   kind_for s       ==  the kind that matches it: 17 for 1,294 bytes, else 16
--   header_wrong s   ==  "9 if the header doesn't match the length": it is not both that payload length and that kind
--   shut_not_zero s  ==  "a shut window not zero", "and 10 also for shut head fields that aren't zero": open is 0, and
--                        the def mask, the bits, the address or the opcode is not
--   window_wrong s   ==  "open above 1, a bit above 2, or a shut window not zero"; a byte from 2^3 on has a bit above 2
use Rattle.std.specs.Prelude.{ℕ, ◌^◌, Bool, not, cond, ◌&&◌, ◌||◌, List, eqb, leb, ltb}
use Rattle.little_endian.specs.Numbers.{number_at}
use Rattle.image.specs.Parts.{open_at, def_mask_at, bits_at, has_head, address_at, opcode_at}
use Rattle.image.specs.ImageLayout.{image_payload, image_kind, old_payload, old_kind}

abbrev pub payload_for : List ℕ → ℕ
payload_for s = cond (has_head s) image_payload old_payload

abbrev pub kind_for : List ℕ → ℕ
kind_for s = cond (has_head s) image_kind old_kind

unfoldable pub header_wrong : List ℕ → Bool
header_wrong s = not (eqb (number_at 2 s 0) (payload_for s) && eqb (number_at 2 s 2) (kind_for s))

abbrev pub shut_not_zero : List ℕ → Bool
shut_not_zero s =
    eqb (open_at s) 0
    && not (eqb (def_mask_at s) 0 && eqb (bits_at s) 0 && eqb (address_at s) 0 && eqb (opcode_at s) 0)

unfoldable pub window_wrong : List ℕ → Bool
window_wrong s = ltb 1 (open_at s) || leb (2 ^ 3) (bits_at s) || shut_not_zero s
