-- Document 01, "Records and images", and document 02, R-6: which images are refused, in the order of the table, and
-- what image writing and image reading give. The Rust has none.
--
--   either_length s                  ==  s has 1,288 or 1,294 bytes
--   image_verdict_of s               ==  the verdict on an image
--                                        "Image reading: 8, 9, 10"; "8 if the length is neither 1,288 nor 1,294, 9 if
--                                        the header doesn't match the length, and 10 .."; no row looks at tags or
--                                        slots: "All slot bytes are accepted"
--   ImageOutcome, image_outcome r l  ==  what is returned, r, together with every lent byte afterwards, l
--   image_write_of t lent            ==  the whole outcome of image writing
--                                        "7 below 1,294 bytes to write"; what lies beyond the image stays, and all
--                                        lent bytes where it is refused
--   write_verdict r                  ==  the verdict in what image writing returns
--   bytes_written r                  ==  how many bytes it says were written
--                                        "Image writing answers 1,288 bytes written, or 0 if refused", which are 1,294
--                                        now
--   image_timing_by v s              ==  the state that is read
--                                        "Refused image reading returns a fresh state (zeros, window shut)"
--   image_read_of s                  ==  the whole answer of image reading
use Rattle.std.specs.Prelude.{ℕ, Bool, not, ◌||◌, List, Result, Ok, Err, eqb, ltb, length}
use Rattle.bits.specs.Rows.{otherwise, ◌⇒◌⨾◌, first}
use Rattle.little_endian.specs.Numbers.{put_at}
use Rattle.state.specs.declared.Oep060Timing.{Oep060Timing}
use Rattle.state.specs.Timing.{fresh_of}
use Rattle.refusals.specs.declared.Refusal.TheVariants.{Room, ImageLength, ImageHeader, ImageWindow}
use Rattle.refusals.specs.declared.Refusal.{Refusal}
use Rattle.refusals.specs.Verdict.{Verdict, accepted}
use Rattle.image.specs.Wrong.{header_wrong, window_wrong}
use Rattle.image.specs.declared.ImageRead.{ImageRead}
use Rattle.image.specs.Image.{image_of, image_state_of}
use Rattle.image.specs.ImageLayout.{old_length, image_length}

abbrev pub either_length : List ℕ → Bool
either_length s = eqb (length s) old_length || eqb (length s) image_length

unfoldable pub image_verdict_of : List ℕ → Verdict
image_verdict_of s =
    first
    (not (either_length s) ⇒ Err ImageLength
    ⨾ header_wrong s ⇒ Err ImageHeader
    ⨾ window_wrong s ⇒ Err ImageWindow
    ⨾ otherwise accepted)

abbrev pub write_verdict : Result ℕ Refusal → Verdict
write_verdict (Ok written) = accepted
write_verdict (Err refusal) = Err refusal

abbrev pub bytes_written : Result ℕ Refusal → ℕ
bytes_written (Ok written) = written
bytes_written (Err refusal) = 0

pub record ImageOutcome : Type 0 where
  pub answer : Result ℕ Refusal
  pub lent : List ℕ

abbrev pub image_outcome : Result ℕ Refusal → List ℕ → ImageOutcome
image_outcome r lent = record { answer = r; lent = lent }

unfoldable pub image_write_of : Oep060Timing → List ℕ → ImageOutcome
image_write_of t lent =
    first
    (ltb (length lent) image_length ⇒ image_outcome (Err (Room 0)) lent
    ⨾ otherwise (image_outcome (Ok image_length) (put_at lent 0 (image_of t))))

abbrev pub image_timing_by : Verdict → List ℕ → Oep060Timing
image_timing_by (Ok done) s = image_state_of s
image_timing_by (Err refusal) s = fresh_of

abbrev pub image_read_of : List ℕ → ImageRead
image_read_of s = record { verdict = image_verdict_of s; timing = image_timing_by (image_verdict_of s) s }
