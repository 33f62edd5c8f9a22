-- "Each number is given then and only then": refusal 1 for over 1,048,576 records, else refusal
-- 7 where one of the two lent runs has under one place a record, else none. By the two tests of `batch_verdict_of`.
use mathlib.Core.Path.{◌≡◌, refl, ap, ◌∙◌}
use mathlib.Core.Bool.{Bool, true, false, not, cond, ◌&&◌}
use mathlib.Core.List.{List}
use lib.Dec.{ltb}
use lib.ListN.{length}
use Rattle.std.specs.Prelude.{Ok, Err}
use Rattle.profile.specs.declared.Profile.{Profile}
use Rattle.state.specs.declared.Retirement.{Retirement}
use Rattle.state.specs.declared.Oep060Timing.{Oep060Timing}
use Rattle.refusals.specs.declared.Refusal.TheVariants.{Oversized, Room}
use Rattle.refusals.specs.Runs.{Runs, rooms_of}
use Rattle.refusals.specs.Verdict.{Verdict, accepted}
use Rattle.batch.specs.Judge.{short, batch_verdict_of}
use Rattle.batch.specs.Batch.{batch_outcome_by, batch_of}
use Rattle.refusals.specs.Given.{is_accepted, gives}

module _ (P : Profile) (rs : List Retirement) (lent : Runs) (t : Oep060Timing) where
  verdict_is : (v : Verdict) → (batch_outcome_by P v rs lent t).ran.verdict ≡ v
  verdict_is (Ok done) = refl
  verdict_is (Err refusal) = refl

  -- what holds of each of the three verdicts, where the two tests come out so, holds of the batch's
  by_tests : (f : Verdict → Bool) (g : Bool → Bool → Bool)
      → ((few : Bool) → f (Err Oversized) ≡ g true few)
      → f (Err (Room 0)) ≡ g false true
      → f accepted ≡ g false false
      → f (batch_of P rs lent t).ran.verdict ≡ g (ltb 1048576 (length rs)) (short (rooms_of lent) (length rs))
  unfolding batch_verdict_of batch_of
  by_tests f g over few taken =
      ap f (verdict_is (batch_verdict_of (length rs) (rooms_of lent)))
      ∙ go (ltb 1048576 (length rs)) (short (rooms_of lent) (length rs))
    where
      go : (o u : Bool) → f (cond o (Err Oversized) (cond u (Err (Room 0)) accepted)) ≡ g o u
      go true u = over u
      go false true = few
      go false false = taken

  pub batch_gives_1 : gives 1 0 (batch_of P rs lent t).ran.verdict ≡ ltb 1048576 (length rs)
  batch_gives_1 = by_tests (gives 1 0) (λ over few. over) (λ few. refl) refl refl

  pub batch_gives_7 : gives 7 0 (batch_of P rs lent t).ran.verdict
      ≡ (not (ltb 1048576 (length rs)) && short (rooms_of lent) (length rs))
  batch_gives_7 = by_tests (gives 7 0) (λ over few. not over && few) (λ few. refl) refl refl

  pub batch_accepts : is_accepted (batch_of P rs lent t).ran.verdict
      ≡ (not (ltb 1048576 (length rs)) && not (short (rooms_of lent) (length rs)))
  batch_accepts = by_tests is_accepted (λ over few. not over && not few) (λ few. refl) refl refl
