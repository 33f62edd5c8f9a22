-- The cache's answer, made of the factors alone: of a branch its own, and whether EBC is on and the fetch cached.
-- Assumes nothing.
use mathlib.Core.Path.{◌≡◌, refl}
use mathlib.Core.Bool.{Bool, true, false, cond, ◌&&◌}
use Rattle.std.specs.Prelude.{Option, Some, None}
use lib.Dec.{leb}
use Rattle.class_word.specs.Word.{has, BRANCH}
use Rattle.branch_cache.specs.Slot.{counter_of, valid_of, predict_of}
use Rattle.branch_cache.specs.Cache.{cache_predict_of}
use Rattle.cost.specs.Branch.{heard}
use Rattle.cost.specs.declared.branch.Answer.{Answer}
use Rattle.cost.specs.declared.branch.Answer.TheVariants.{NotConsulted}
use Rattle.profile.specs.declared.Profile.{Profile}
use Rattle.profile.specs.Profile.{profile_of}
use Rattle.state.specs.declared.Oep060Timing.{Oep060Timing}
use Rattle.state.specs.declared.Retirement.{Retirement}
use Rattle.state.specs.Events.{answer_of}
use Rattle.state.specs.Timing.{stepped_by}
use Rattle.step.specs.Boards.{stepped_of}
use Rattle.promises.specs.Factors.{BranchFactors, Factors, branch_factors_of, factors_of}

abbrev pub answer_from : Bool → Option BranchFactors → Answer
answer_from asked None = NotConsulted
answer_from asked (Some b) = cond asked (heard (cond (valid_of b.byte && b.tag_equal) (Some (leb 2 (counter_of b.byte))) None)) NotConsulted

abbrev pub answer_on : Factors → Answer
answer_on f = answer_from (f.ebc && f.cached) f.branch

module _ (P : Profile) (t : Oep060Timing) (r : Retirement) where
  answer_by : (b : Bool)
      → cond (b && (r.controls.ebc && r.controls.cached)) (heard (cache_predict_of t.cache r.controls.ppc)) NotConsulted
      ≡ answer_from (r.controls.ebc && r.controls.cached) (cond b (Some (branch_factors_of t.cache r.controls)) None)
  unfolding predict_of
  answer_by true = refl
  answer_by false = refl

  pub step_answer_lem : (stepped_of P t r).answer ≡ answer_on (factors_of P t r)
  unfolding stepped_by answer_of
  step_answer_lem = answer_by (has (profile_of P r.op).word.0 BRANCH)
