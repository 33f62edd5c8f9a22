-- The facts of every image, from the laws of the crate image.
-- Assumes nothing.
use Prim.Native.Nat.{ℕ}
use mathlib.Core.Path.{◌≡◌, refl}
use mathlib.Core.List.{List}
use lib.ListN.{length}
use Rattle.std.specs.Prelude.{Ok, Err}
use Rattle.refusals.specs.Verdict.{Verdict}
use Rattle.image.specs.Parts.{image_window_of}
use Rattle.image.specs.Entries.{image_verdict_of, image_timing_by}
use Rattle.image.proofs.Refusals.{image_gives_7, image_gives_8, image_gives_9, image_gives_10, image_accepts}
use Rattle.image.proofs.WrittenRead.{image_length_lem}
use Rattle.image.proofs.RoundTrip.{image_round, image_again, image_old_again}
use Rattle.promises.specs.Images.{EveryImage}

old_head_lem : (s : List ℕ) → length s ≡ 1288 → (v : Verdict) → ((image_timing_by v s).window.op ≡ 0) × ((image_timing_by v s).window.address ≡ 0)
unfolding image_window_of
old_head_lem s long (Ok done) = (rw long, rw long)
old_head_lem s long (Err refusal) = (refl, refl)

pub every_image : EveryImage
every_image =
    record {
      size = λ t r. image_length_lem t r;
      read_back = λ lent room t r. image_round lent room t r;
      written_again = λ lent room s b long e. image_again lent room s b long e;
      old_written_again = λ lent room s b long e. image_old_again lent room s b long e;
      old_head = λ s long. old_head_lem s long (image_verdict_of s);
      given8 = image_gives_8;
      given9 = image_gives_9;
      given10 = image_gives_10;
      given7 = image_gives_7;
      taken = image_accepts;
    }
