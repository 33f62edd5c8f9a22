-- The reader of images as it was before document 02's R-6, kept for this: "An old reader meets kind 17 with refusal 8."
-- Document 01, "Records and images": "The image is kind 16, payload 1,284: 256 tags, 256 bytes, then open (0 or 1), def
-- mask 2, bits (0 CCR, 1 memory, 2 cached)." Their places are kind 17's, too: its old fields stand where they stood.
--
--   old_header_wrong s   ==  "image header wrong": it is not both payload length 1,284 and kind 16
--   old_shut_not_zero s  ==  "a shut window not zero": open is 0, and the def mask or the bits are not
--   old_window_wrong s   ==  "open above 1, a bit above 2, or a shut window not zero"
--   old_verdict_of s     ==  the old reader's verdict on an image
--                            "image not 1,288 bytes"; "Image reading: 8, 9, 10"
--   old_window_of s      ==  the window that it reads: open is 1; the def mask; "0 CCR, 1 memory, 2 cached"; it knows
--                            no head's opcode and address, for which zeros stand here
--   old_state_of s       ==  the state that it reads
--   old_timing_by v s    ==  that, or "a fresh state (zeros, window shut)" where it refuses
--   old_read_of s        ==  its whole answer
--   OldReader            ==  the facts
use Rattle.std.specs.Prelude.{ℕ, ◌^◌, ◌≡◌, Bool, not, true, ◌&&◌, ◌||◌, List, Ok, Err, eqb, leb, ltb, length}
use Rattle.bits.specs.Rows.{otherwise, ◌⇒◌⨾◌, first}
use Rattle.bits.specs.Words.{bit}
use Rattle.little_endian.specs.Numbers.{number_at}
use Rattle.window.specs.declared.Window.{Window}
use Rattle.state.specs.declared.Oep060Timing.{Oep060Timing}
use Rattle.state.specs.Timing.{fresh_of}
use Rattle.refusals.specs.declared.Refusal.TheVariants.{ImageLength, ImageHeader, ImageWindow}
use Rattle.refusals.specs.Given.{gives}
use Rattle.refusals.specs.Verdict.{Verdict, accepted}
use Rattle.image.specs.declared.ImageRead.{ImageRead}
use Rattle.image.specs.ImageLayout.{image_length, old_payload, old_kind, old_length}
use Rattle.image.specs.Parts.{image_tags_of, image_slots_of, open_at, def_mask_at, bits_at}
use Rattle.image.specs.Image.{InRange, image_of}
use Rattle.image.specs.Entries.{image_read_of}

abbrev pub old_header_wrong : List ℕ → Bool
old_header_wrong s = not (eqb (number_at 2 s 0) old_payload && eqb (number_at 2 s 2) old_kind)

abbrev pub old_shut_not_zero : List ℕ → Bool
old_shut_not_zero s = eqb (open_at s) 0 && not (eqb (def_mask_at s) 0 && eqb (bits_at s) 0)

abbrev pub old_window_wrong : List ℕ → Bool
old_window_wrong s = ltb 1 (open_at s) || leb (2 ^ 3) (bits_at s) || old_shut_not_zero s

abbrev pub old_verdict_of : List ℕ → Verdict
old_verdict_of s =
    first
    (not (eqb (length s) old_length) ⇒ Err ImageLength
    ⨾ old_header_wrong s ⇒ Err ImageHeader
    ⨾ old_window_wrong s ⇒ Err ImageWindow
    ⨾ otherwise accepted)

abbrev pub old_window_of : List ℕ → Window
old_window_of s =
    record {
      opened = eqb (open_at s) 1;
      defs = def_mask_at s;
      ccr = bit 0 (bits_at s);
      mem = bit 1 (bits_at s);
      warm = bit 2 (bits_at s);
      op = 0;
      address = 0;
    }

abbrev pub old_state_of : List ℕ → Oep060Timing
old_state_of s =
    record { cache = record { tags = image_tags_of s; state = image_slots_of s }; window = old_window_of s }

abbrev pub old_timing_by : Verdict → List ℕ → Oep060Timing
old_timing_by (Ok done) s = old_state_of s
old_timing_by (Err refusal) s = fresh_of

abbrev pub old_read_of : List ℕ → ImageRead
old_read_of s = record { verdict = old_verdict_of s; timing = old_timing_by (old_verdict_of s) s }

pub record OldReader : Type 0 where
  -- "An old reader meets kind 17 with refusal 8": at 0, whatever the 1,294 bytes hold, and with a fresh state
  pub refuses8 : (s : List ℕ) → length s ≡ image_length → gives 8 0 (old_verdict_of s) ≡ true
  pub gives_fresh : (s : List ℕ) → length s ≡ image_length → (old_read_of s).timing ≡ fresh_of
  -- so the image of every state
  pub refuses_images : (t : Oep060Timing) → InRange t → gives 8 0 (old_verdict_of (image_of t)) ≡ true
  -- "Old kind 16 images are still read, head fields zero": 1,288 bytes are refused or read just as by the old reader
  pub still_read : (s : List ℕ) → length s ≡ old_length → image_read_of s ≡ old_read_of s
