-- The facts about equal factors.
-- Assumes nothing.
use mathlib.Core.Path.{sym, ap, ◌∙◌}
use Rattle.class_word.specs.Word.{clocks}
use Rattle.profile.specs.declared.Profile.{Profile}
use Rattle.profile.specs.Profile.{profile_of}
use Rattle.promises.specs.Factors.{factors_of, coarse, with_fallback, EqualFactors}
use Rattle.promises.proofs.FactorsAnswer.{answer_on, step_answer_lem}
use Rattle.promises.proofs.FactorsStep.{step_cost_lem, same_step}
use Rattle.promises.proofs.FactorsBranch.{same_branch}
use Rattle.promises.proofs.FactorsFallback.{form_from, in_form, f_window, f_change}

pub equal_factors : (P : Profile) → EqualFactors P
equal_factors P =
    record {
      equal = λ t t' r r' e. same_step P t t' r r' (ap coarse e);
      equal_but_touched = same_step P;
      equal_of_branch = λ t t' r r' h e. same_branch P t t' r r' h e;
      form = λ f. form_from (profile_of P f.op) f f.branch;
      fallback_in_form = λ t r.
          step_cost_lem P t r
          ∙ ap clocks (in_form (profile_of P r.op) (with_fallback (coarse (factors_of P t r)) 0) (factors_of P t r).branch (factors_of P t r).fallback);
      equal_but_fallback = λ t t' r r' e. (f_window P t t' r r' e, f_change P t t' r r' e, step_answer_lem P t r ∙ ap answer_on e ∙ sym (step_answer_lem P t' r'));
    }
