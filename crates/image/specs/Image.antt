-- Document 01, "Records and images": "256 tags, 256 bytes, then open (0 or 1), def mask 2, bits (0 CCR, 1 memory, 2
-- cached)"; and document 02, R-6: "Images are now written as kind 17". Its parts as bytes are in Bytes, and as they are
-- read in Parts. The Rust has none.
--
--   image_of t        ==  the image of the state t: header, tags of 4 bytes, slots of 1 byte, and the window as it is
--                         read, its head behind it
--                         "A shut window has zeros. A state handed in shut with other window fields set is read, and
--                         handed back, as if they were zero"
--   image_state_of s  ==  the state of the image s, of either kind
-- What the types of the code hold always:
--   InRange t         ==  256 tags below 2^32, 256 slots' bytes below 2^8, a def mask below 2^16, and of the head an
--                         opcode below 2^16 and an address below 2^32
use Rattle.std.specs.Prelude.{ℕ, ◌^◌, ◌<◌, ◌≡◌, List, length}
use Rattle.little_endian.specs.Numbers.{Below}
use Rattle.window.specs.Windows.{seen}
use Rattle.state.specs.declared.Oep060Timing.{Oep060Timing}
use Rattle.image.specs.Bytes.{image_bytes}
use Rattle.image.specs.Parts.{image_tags_of, image_slots_of, image_window_of}

unfoldable pub image_of : Oep060Timing → List ℕ
image_of t = image_bytes t.cache.tags t.cache.state (seen t.window)

abbrev pub image_state_of : List ℕ → Oep060Timing
image_state_of s =
    record { cache = record { tags = image_tags_of s; state = image_slots_of s }; window = image_window_of s }

pub record InRange (t : Oep060Timing) : Type 0 where
  pub tags : (length t.cache.tags ≡ 256) × Below (2 ^ 32) t.cache.tags
  pub slots : (length t.cache.state ≡ 256) × Below (2 ^ 8) t.cache.state
  pub mask : t.window.defs < 2 ^ 16
  pub opcode : t.window.op < 2 ^ 16
  pub address : t.window.address < 2 ^ 32
