-- Demand 3's exact zero: a retirement as met is free where it joins or folds.
-- Assumes nothing.
use mathlib.Core.Path.{◌≡◌, refl, sym, ap, ◌∙◌}
use mathlib.Core.Logic.{◌↔◌}
use mathlib.Core.Bool.{Bool, true, false, cond, ◌&&◌, ◌||◌}
use lib.Dec.{eqb}
use borrow.Author.Tests.{eqb-true, eq-eqb}
use Rattle.std.specs.Prelude.{Option, Some, None}
use Rattle.class_word.specs.Word.{has, BRANCH}
use Rattle.cost.specs.declared.branch.Answer.TheVariants.{NotConsulted}
use Rattle.cost.specs.Branch.{taken_of, predicts_taken, heard}
use Rattle.window.specs.Windows.{shut}
use Rattle.cost.specs.Cost.{cost_of}
use Rattle.cost.specs.Free.{free}
use Rattle.cost.proofs.Zero.{zero_exactly_lem, zero_shuts}
use Rattle.state.specs.declared.Retirement.{Retirement}
use Rattle.state.specs.declared.Event.TheVariants.{Retired}
use Rattle.state.specs.Board.{Board}
use Rattle.state.specs.Events.{State, answer_of, retiring_of, after}
use Rattle.promises.specs.Demand3.{Sound, is_taken, joins, folds}

-- the answer is "taken" only for a branch that asked a cache that predicts so
by_asking : (b e c t : Bool) (x : Option Bool)
    → (b && predicts_taken (cond (b && (e && c)) (heard x) NotConsulted) && t) ≡ (b && c && e && is_taken x && t)
by_asking true true true t None = refl
by_asking true true true t (Some false) = refl
by_asking true true true t (Some true) = refl
by_asking true true false t x = refl
by_asking true false true t x = refl
by_asking true false false t x = refl
by_asking false e c t x = refl

module _ (B : Board) (s : State B.rule) (r : Retirement) where
  free_is : free (retiring_of B s r) ≡ (s.window.opened && (joins B s r || folds B s r))
  unfolding free answer_of
  free_is =
      ap (λ (x : Bool). s.window.opened && (joins B s r || x))
      (by_asking (has (B.profile r.op).word.0 BRANCH) r.controls.ebc r.controls.cached (taken_of (B.profile r.op) r.controls)
      (B.rule.predict s.cache r.controls.ppc))

  module _ (ok : Sound B) where
    pub zero_is : eqb (cost_of (retiring_of B s r)) 0 ≡ (s.window.opened && (joins B s r || folds B s r))
    zero_is = zero_exactly_lem _ (ok r.op) ∙ free_is

    pub costs_zero : (cost_of (retiring_of B s r) ≡ 0) ↔ ((s.window.opened && (joins B s r || folds B s r)) ≡ true)
    costs_zero = (
      λ z. sym (zero_exactly_lem _ (ok r.op) ∙ free_is) ∙ eq-eqb _ _ z,
      λ h. eqb-true _ _ (zero_exactly_lem _ (ok r.op) ∙ free_is ∙ h),
    )

    pub then_shut_lem : cost_of (retiring_of B s r) ≡ 0 → (after B s (Retired r)).window ≡ shut
    then_shut_lem z = (zero_shuts _ (ok r.op) z).1
