-- The old reader: it refuses what is not 1,288 bytes long, and what is, is read as it read it.
-- Assumes nothing.
use mathlib.Core.Path.{◌≡◌, refl, ap, ◌∙◌}
use mathlib.Core.Bool.{true}
use mathlib.Core.List.{List}
use Prim.Native.Nat.{ℕ}
use Rattle.std.proofs.Math.Bool.{and-true}
use lib.ListN.{length}
use Rattle.std.specs.Prelude.{Ok, Err}
use Rattle.refusals.specs.Given.{gives}
use Rattle.refusals.specs.Verdict.{Verdict}
use Rattle.state.specs.declared.Oep060Timing.{Oep060Timing}
use Rattle.state.specs.Timing.{fresh_of}
use Rattle.window.specs.declared.Window.{Window}
use Rattle.image.specs.Parts.{image_window_of}
use Rattle.image.specs.Wrong.{header_wrong, window_wrong}
use Rattle.image.specs.Image.{image_of, image_state_of}
use Rattle.image.specs.Entries.{image_verdict_of, image_timing_by, image_read_of}
use Rattle.image.proofs.WrittenRead.{image_length_lem}
use Rattle.promises.specs.OldReader.{old_verdict_of, old_window_of, old_timing_by, old_read_of, OldReader}

module _ (s : List ℕ) (long : length s ≡ 1294) where
  refused : gives 8 0 (old_verdict_of s) ≡ true
  refused = rw long

  fresh : (old_read_of s).timing ≡ fresh_of
  fresh = rw long

module _ (s : List ℕ) (long : length s ≡ 1288) where
  same_verdict : image_verdict_of s ≡ old_verdict_of s
  unfolding image_verdict_of header_wrong window_wrong
  same_verdict = simp (long, and-true)

  same_window : image_window_of s ≡ old_window_of s
  unfolding image_window_of
  same_window = rw long

  same_timing : (v : Verdict) → image_timing_by v s ≡ old_timing_by v s
  same_timing (Ok done) = ap (λ (w : Window). record { cache = (image_state_of s).cache; window = w }) same_window
  same_timing (Err refusal) = refl

  still_read_lem : image_read_of s ≡ old_read_of s
  still_read_lem =
      ap (λ (v : Verdict). record { verdict = v; timing = image_timing_by v s }) same_verdict
      ∙ ap (λ (t : Oep060Timing). record { verdict = old_verdict_of s; timing = t }) (same_timing (old_verdict_of s))

pub old_reader : OldReader
old_reader =
    record {
      refuses8 = refused;
      gives_fresh = fresh;
      refuses_images = λ t r. refused (image_of t) (image_length_lem t r);
      still_read = still_read_lem;
    }
