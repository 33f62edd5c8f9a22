-- Document 01, "Records and images", and the tender's demand 2: "State images written and read back give the same
-- state, and accepted images rewritten give the same bytes." Document 02, R-6: "Round trip in demand 2 is for kind 17;
-- a kind 16 image read and written gives the kind 17 image of that state."
--
--   EveryImage  ==  the facts, each for every state, image and lent bytes
--
-- `InRange t` and `Below 256 s` say what the code's types hold always: arrays of 256 elements, numbers that fit, bytes.
use Rattle.std.specs.Prelude.{ℕ, ◌≤◌, ◌≡◌, not, ◌&&◌, ◌||◌, List, ◌++◌, eqb, ltb, length, take, drop, replicate}
use Rattle.little_endian.specs.Numbers.{Below}
use Rattle.state.specs.declared.Oep060Timing.{Oep060Timing}
use Rattle.state.specs.Timing.{seen_of}
use Rattle.image.specs.declared.ImageRead.{ImageRead}
use Rattle.image.specs.Image.{InRange, image_of}
use Rattle.image.specs.Bytes.{header_bytes}
use Rattle.image.specs.Entries.{either_length, image_verdict_of, image_write_of, write_verdict, image_read_of}
use Rattle.image.specs.ImageLayout.{image_length, old_length}
use Rattle.refusals.specs.Given.{gives, is_accepted}
use Rattle.refusals.specs.Verdict.{accepted}
use Rattle.image.specs.Wrong.{header_wrong, window_wrong}

pub record EveryImage : Type 0 where
  -- "1,294 bytes in all"
  pub size : (t : Oep060Timing) → InRange t → length (image_of t) ≡ image_length
  -- an image written and read back gives the state, as it is read
  pub read_back : (lent : List ℕ) → image_length ≤ length lent → (t : Oep060Timing) → InRange t
      → ◌≡◌ {A = ImageRead} (image_read_of (take image_length (image_write_of t lent).lent)) (record {
        verdict = accepted;
        timing = seen_of t;
      })
  -- an accepted image of kind 17 read and written gives the same bytes
  pub written_again : (lent : List ℕ) → image_length ≤ length lent → (s : List ℕ) → Below 256 s
      → length s ≡ image_length
      → image_verdict_of s ≡ accepted
      → take image_length (image_write_of (image_read_of s).timing lent).lent ≡ s
  -- an accepted image of kind 16 read and written gives the kind 17 image of that state: kind 17's header, the same old
  -- fields, and zeros for the head's address and opcode
  pub old_written_again : (lent : List ℕ) → image_length ≤ length lent → (s : List ℕ) → Below 256 s
      → length s ≡ old_length
      → image_verdict_of s ≡ accepted
      → take image_length (image_write_of (image_read_of s).timing lent).lent
      ≡ header_bytes ++ drop 4 s ++ replicate 6 0
  -- "Old kind 16 images are still read, head fields zero"
  pub old_head : (s : List ℕ) → length s ≡ old_length
      → ((image_read_of s).timing.window.op ≡ 0) × ((image_read_of s).timing.window.address ≡ 0)
  -- "Each number is given then and only then": "Image reading: 8, 9, 10", and 7 of writing
  pub given8 : (s : List ℕ)
      → gives 8 0 (image_verdict_of s) ≡ not (eqb (length s) old_length || eqb (length s) image_length)
  pub given9 : (s : List ℕ) → gives 9 0 (image_verdict_of s) ≡ (either_length s && header_wrong s)
  pub given10 : (s : List ℕ)
      → gives 10 1284 (image_verdict_of s) ≡ (either_length s && not (header_wrong s) && window_wrong s)
  pub given7 : (t : Oep060Timing) (lent : List ℕ)
      → gives 7 0 (write_verdict (image_write_of t lent).answer) ≡ ltb (length lent) image_length
  -- else it is accepted
  pub taken : (s : List ℕ)
      → is_accepted (image_verdict_of s) ≡ (either_length s && not (header_wrong s) && not (window_wrong s))
