-- The two round trips as image writing and image reading give them, in any lent bytes with room.
use mathlib.Core.Path.{◌≡◌, ap, ◌∙◌}
use mathlib.Core.List.{List, ◌++◌}
use Prim.Native.Nat.{ℕ, ◌+◌, ◌≤◌}
use lib.ListN.{length, take, drop, replicate, length-append, length-drop}
use lib.Seq.{take_at}
use borrow.Author.Tests.{le-ltb}
use Rattle.refusals.specs.Verdict.{accepted}
use Rattle.little_endian.specs.Numbers.{bytes_of, put_at, Below}
use Rattle.state.specs.declared.Oep060Timing.{Oep060Timing}
use Rattle.state.specs.Timing.{seen_of}
use Rattle.image.specs.declared.ImageRead.{ImageRead}
use Rattle.image.specs.Image.{image_of, image_state_of, InRange}
use Rattle.image.specs.Entries.{image_verdict_of, image_write_of, image_read_of}
use Rattle.image.specs.Bytes.{header_bytes}
use Rattle.image.proofs.WrittenRead.{image_length_lem, image_read_back}
use Rattle.image.proofs.ReadWritten.{image_written_again, image_renewed}

-- with room the lent bytes begin with the image
module _ (lent : List ℕ) (room : 1294 ≤ length lent) where
  begins : (t : Oep060Timing) → length (image_of t) ≡ 1294 → take 1294 (image_write_of t lent).lent ≡ image_of t
  unfolding image_write_of put_at
  begins t long = simp (le-ltb _ _ room) (take_at (image_of t) (drop (0 + length (image_of t)) lent) 1294 long)

  -- a state written and read back is the state as it is read
  pub image_round : (t : Oep060Timing) → InRange t
      → ◌≡◌ {A = ImageRead} (image_read_of (take 1294 (image_write_of t lent).lent)) (record { verdict = accepted; timing = seen_of t })
  image_round t r = ap image_read_of (begins t (image_length_lem t r)) ∙ image_read_back t r

  -- what is written of an accepted image begins with the image of its state
  written : (s : List ℕ) → image_verdict_of s ≡ accepted → {x : List ℕ} → image_of (image_state_of s) ≡ x → length x ≡ 1294
      → take 1294 (image_write_of (image_read_of s).timing lent).lent ≡ x
  written s e w long = rw e (begins (image_state_of s) (ap length w ∙ long) ∙ w)

  -- an accepted image of kind 17 read and written is the image
  pub image_again : (s : List ℕ) → Below 256 s → length s ≡ 1294 → image_verdict_of s ≡ accepted
      → take 1294 (image_write_of (image_read_of s).timing lent).lent ≡ s
  image_again s b long e = written s e (image_written_again s b e long) long

  -- one of kind 16 gives the image of kind 17 with its payload, and a head of zeros
  pub image_old_again : (s : List ℕ) → Below 256 s → length s ≡ 1288 → image_verdict_of s ≡ accepted
      → take 1294 (image_write_of (image_read_of s).timing lent).lent ≡ header_bytes ++ drop 4 s ++ replicate 6 0
  unfolding bytes_of
  image_old_again s b long e =
      let l : length (header_bytes ++ drop 4 s ++ replicate 6 0) ≡ 1294 =
      rw (length-append (header_bytes ++ drop 4 s) (replicate 6 0), length-append header_bytes (drop 4 s), length-drop 4 s, long) in
      written s e (image_renewed s b e long) l
