-- Of a branch only some factors matter: of the window whether it is open, and no fallback.
-- Assumes nothing.
use Prim.Native.Nat.{ℕ}
use mathlib.Core.Path.{◌≡◌, refl, sym, ap, subst, ◌∙◌}
use mathlib.Core.Bool.{Bool, true, false, true≢false, cond}
use Rattle.std.specs.Prelude.{Some, None}
use Rattle.class_word.specs.Word.{clocks, has, BRANCH}
use Rattle.window.specs.declared.dispatch.Instruction.{Instruction}
use Rattle.window.specs.Windows.{unnamed}
use Rattle.profile.specs.declared.Profile.{Profile}
use Rattle.profile.specs.Profile.{profile_of}
use Rattle.state.specs.declared.Oep060Timing.{Oep060Timing}
use Rattle.state.specs.declared.Retirement.{Retirement}
use Rattle.step.specs.Boards.{stepped_of}
use Rattle.promises.specs.Factors.{BranchFactors, Factors, factors_of, branch_factors_of, coarse, of_branch, SameChange, SameStep}
use Rattle.promises.proofs.FactorsAnswer.{answer_on, step_answer_lem}
use Rattle.promises.proofs.FactorsCost.{cost_from, window_from}
use Rattle.promises.proofs.FactorsCache.{byte_from, changed}
use Rattle.promises.proofs.FactorsStep.{cost_on, window_on, byte_on, step_cost_lem, step_window, step_cache, change_by, whole_by, slots_by}

module _ (i : Instruction) (f : Factors) (x : BranchFactors) where
  branch_cost_lem : (b : Bool) → b ≡ true → cost_from i (coarse f) (cond b (Some x) None) ≡ cost_from i (of_branch f) (cond b (Some x) None)
  branch_cost_lem true e = refl
  branch_cost_lem false e = absurd (true≢false (sym e))

  branch_window : (b : Bool) → b ≡ true → window_from i (coarse f) (cond b (Some x) None) ≡ window_from i (of_branch f) (cond b (Some x) None)
  branch_window true e = refl
  branch_window false e = absurd (true≢false (sym e))

  branch_byte : (b : Bool) → b ≡ true → byte_from i (coarse f) (cond b (Some x) None) ≡ byte_from i (of_branch f) (cond b (Some x) None)
  branch_byte true e = refl
  branch_byte false e = absurd (true≢false (sym e))

abbrev Branches : Profile → ℕ → Type 0
Branches P op = has (profile_of P op).word.0 BRANCH ≡ true

module _ (P : Profile) (t : Oep060Timing) (r : Retirement) (h : Branches P r.op) where
  abbrev x : BranchFactors
  x = branch_factors_of t.cache r.controls

  b_cost : (stepped_of P t r).cost ≡ cost_on P (of_branch (factors_of P t r))
  b_cost = step_cost_lem P t r ∙ ap clocks (branch_cost_lem (profile_of P r.op) (factors_of P t r) x _ h)

  b_window : unnamed (stepped_of P t r).timing.window ≡ window_on P (of_branch (factors_of P t r))
  b_window = step_window P t r ∙ branch_window (profile_of P r.op) (factors_of P t r) x _ h

  b_cache : (stepped_of P t r).timing.cache ≡ changed t.cache r.controls.ppc (byte_on P (of_branch (factors_of P t r)))
  b_cache = step_cache P t r ∙ ap (changed t.cache r.controls.ppc) (branch_byte (profile_of P r.op) (factors_of P t r) x _ h)

module _ (P : Profile) (t t' : Oep060Timing) (r r' : Retirement) (h : Branches P r.op) (e : of_branch (factors_of P t r) ≡ of_branch (factors_of P t' r')) where
  h' : Branches P r'.op
  h' = subst (λ (f : Factors). Branches P f.op) e h

  b_change : SameChange P t t' r r'
  b_change =
      change_by P t t' r r' (byte_on P (of_branch (factors_of P t' r')))
      (b_cache P t r h ∙ ap (λ (f : Factors). changed t.cache r.controls.ppc (byte_on P f)) e) (b_cache P t' r' h')

  b_same : unnamed (stepped_of P t r).timing.window ≡ unnamed (stepped_of P t' r').timing.window
  b_same = b_window P t r h ∙ ap (window_on P) e ∙ sym (b_window P t' r' h')

  pub same_branch : SameStep P t t' r r'
  same_branch =
      record {
        cost = b_cost P t r h ∙ ap (cost_on P) e ∙ sym (b_cost P t' r' h');
        answer = step_answer_lem P t r ∙ ap answer_on e ∙ sym (step_answer_lem P t' r');
        window = b_same;
        whole = whole_by P t t' r r' (ap (λ (f : Factors). f.op) e) b_same;
        cache = b_change;
        slots = slots_by P t t' r r' b_change;
      }
