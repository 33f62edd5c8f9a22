-- Image writing: without room nothing is put, and with room the image is.
use mathlib.Core.Path.{◌≡◌}
use mathlib.Core.List.{List, ◌++◌}
use Prim.Native.Nat.{ℕ, ◌≤◌, ◌<◌}
use lib.ListN.{length, drop}
use borrow.Author.Tests.{lt-ltb, le-ltb}
use Rattle.std.specs.Prelude.{Ok, Err}
use Rattle.little_endian.specs.Numbers.{put_at}
use Rattle.window.specs.Windows.{seen}
use Rattle.refusals.specs.declared.Refusal.TheVariants.{Room}
use Rattle.state.specs.declared.Oep060Timing.{Oep060Timing}
use Rattle.image.specs.Image.{image_of}
use Rattle.image.specs.Entries.{image_outcome, image_write_of}
use Rattle.image.proofs.ImageBytesWriting.{image_size}

pub image_short : (t : Oep060Timing) (lent : List ℕ) → length lent < 1294 → image_outcome (Err (Room 0)) lent ≡ image_write_of t lent
unfolding image_write_of
image_short t lent h = simp (lt-ltb _ _ h)

pub image_written : (t : Oep060Timing) (lent : List ℕ) → 1294 ≤ length lent → length t.cache.tags ≡ 256 → length t.cache.state ≡ 256
    → {d : List ℕ} → d ≡ image_of t
    → image_outcome (Ok 1294) (d ++ drop 1294 lent) ≡ image_write_of t lent
unfolding image_write_of image_of put_at
image_written t lent room ht hs e =
    simp (le-ltb _ _ room) (rw (image_size t.cache.tags t.cache.state (seen t.window) ht hs, e))
