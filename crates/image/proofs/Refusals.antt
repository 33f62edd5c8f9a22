-- Each verdict is given then and only then: by the three tests of the rows, all cases.
use mathlib.Core.Path.{◌≡◌, refl, sym, ap}
use mathlib.Core.Bool.{Bool, true, false, not, ◌&&◌, true≢false}
use mathlib.Core.List.{List}
use Prim.Native.Nat.{ℕ, ◌≤◌}
use native.Mathlib.Omega.{arith}
use lib.Dec.{eqb, ltb}
use lib.ListN.{length}
use borrow.Author.Tests.{eqb-true}
use Rattle.std.specs.Prelude.{Ok, Err}
use Rattle.refusals.specs.Verdict.{Verdict, accepted}
use Rattle.bits.specs.Rows.{otherwise, ◌⇒◌⨾◌, first}
use Rattle.refusals.specs.declared.Refusal.TheVariants.{Room, ImageLength, ImageHeader, ImageWindow}
use Rattle.refusals.specs.declared.Refusal.{Refusal}
use Rattle.state.specs.declared.Oep060Timing.{Oep060Timing}
use Rattle.image.specs.Wrong.{header_wrong, window_wrong}
use Rattle.image.specs.declared.ImageRead.{ImageRead}
use Rattle.image.specs.Entries.{either_length, image_verdict_of, image_outcome, image_timing_by, write_verdict, image_write_of, image_read_of}
use Rattle.refusals.specs.Given.{gives, is_accepted}
use Rattle.image.specs.ImageLayout.{old_length, image_length}
use Rattle.image.specs.Image.{image_of}
use Rattle.little_endian.specs.Numbers.{put_at}

-- the verdict of the rows by their three tests
abbrev verdict : Bool → Bool → Bool → Verdict
verdict whole header window =
    first (not whole ⇒ Err ImageLength ⨾ header ⇒ Err ImageHeader ⨾ window ⇒ Err ImageWindow ⨾ otherwise accepted)

-- an image is accepted where none of the three tests refuses it
pub image_takes : (s : List ℕ) → either_length s ≡ true → header_wrong s ≡ false → window_wrong s ≡ false → image_verdict_of s ≡ accepted
unfolding image_verdict_of
image_takes s whole header window = simp (whole, header, window)

-- and there alone
pub image_taken : (s : List ℕ) → image_verdict_of s ≡ accepted → (either_length s ≡ true) × (header_wrong s ≡ false) × (window_wrong s ≡ false)
unfolding image_verdict_of
image_taken s = go (either_length s) (header_wrong s) (window_wrong s)
  where
    refused : {r : Refusal} → Err r ≡ accepted → ⊥
    refused e = true≢false (sym (ap is_accepted e))

    go : (a b c : Bool) → verdict a b c ≡ accepted → (a ≡ true) × (b ≡ false) × (c ≡ false)
    go true false false e = (refl, refl, refl)
    go false b c e = absurd (refused e)
    go true true c e = absurd (refused e)
    go true false true e = absurd (refused e)

-- either length has the bytes of the old one
pub long_enough : (s : List ℕ) → either_length s ≡ true → old_length ≤ length s
long_enough s e = go (eqb (length s) old_length) refl
  where
    go : (o : Bool) → eqb (length s) old_length ≡ o → old_length ≤ length s
    go true p = omega (arith, eqb-true (length s) old_length p)
    go false p = omega (arith, eqb-true (length s) image_length (rw p at e))

-- what image reading gives, by the verdict
pub image_by : (s : List ℕ) (v w : Verdict) (t : Oep060Timing) → v ≡ image_verdict_of s → v ≡ w → t ≡ image_timing_by w s
    → ◌≡◌ {A = ImageRead} (record { verdict = v; timing = t }) (image_read_of s)
image_by s v w t e g q = rw (← e, q, ← g)

-- each number, by the three tests
module _ (s : List ℕ) where
  by_tests : (f : Verdict → Bool) (g : Bool → Bool → Bool → Bool) → ((header window : Bool) → f (Err ImageLength) ≡ g false header window)
      → ((window : Bool) → f (Err ImageHeader) ≡ g true true window) → f (Err ImageWindow) ≡ g true false true → f accepted ≡ g true false false
      → f (image_verdict_of s) ≡ g (either_length s) (header_wrong s) (window_wrong s)
  unfolding image_verdict_of
  by_tests f g short header window taken = go (either_length s) (header_wrong s) (window_wrong s)
    where
      go : (a b c : Bool) → f (verdict a b c) ≡ g a b c
      go false b c = short b c
      go true true c = header c
      go true false true = window
      go true false false = taken

  pub image_gives_8 : gives 8 0 (image_verdict_of s) ≡ not (either_length s)
  image_gives_8 = by_tests (gives 8 0) (λ whole header window. not whole) (λ header window. refl) (λ window. refl) refl refl

  pub image_gives_9 : gives 9 0 (image_verdict_of s) ≡ (either_length s && header_wrong s)
  image_gives_9 = by_tests (gives 9 0) (λ whole header window. whole && header) (λ header window. refl) (λ window. refl) refl refl

  pub image_gives_10 : gives 10 1284 (image_verdict_of s) ≡ (either_length s && not (header_wrong s) && window_wrong s)
  image_gives_10 = by_tests (gives 10 1284) (λ whole header window. whole && not header && window) (λ header window. refl) (λ window. refl) refl refl

  pub image_accepts : is_accepted (image_verdict_of s) ≡ (either_length s && not (header_wrong s) && not (window_wrong s))
  image_accepts = by_tests is_accepted (λ whole header window. whole && not header && not window) (λ header window. refl) (λ window. refl) refl refl

-- image writing: refusal 7
pub image_gives_7 : (t : Oep060Timing) (lent : List ℕ) → gives 7 0 (write_verdict (image_write_of t lent).answer) ≡ ltb (length lent) image_length
unfolding image_write_of
image_gives_7 t lent = go (ltb (length lent) image_length)
  where
    go : (a : Bool) → gives 7 0 (write_verdict (first (a ⇒ image_outcome (Err (Room 0)) lent ⨾ otherwise (image_outcome (Ok image_length) (put_at lent 0 (image_of t))))).answer) ≡ a
    go true = refl
    go false = refl
