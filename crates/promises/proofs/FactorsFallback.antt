-- The form in which the fallback enters a cost; window and cache do not have it.
-- Assumes nothing.
use Prim.Native.Nat.{ℕ, ◌+◌, ◌-◌, max}
use mathlib.Core.Path.{◌≡◌, refl, sym, ap, ◌∙◌}
use mathlib.Core.Bool.{Bool, true, false, cond, ◌||◌}
use Rattle.std.specs.Prelude.{Option, Some, None}
use native.Mathlib.Omega.{arith}
use Rattle.class_word.specs.Word.{has, VARIABLE, UNCLASSIFIED, clocks_of, EA_INDEXED}
use Rattle.window.specs.declared.dispatch.Instruction.{Instruction}
use Rattle.window.specs.Windows.{unnamed}
use Rattle.profile.specs.declared.Profile.{Profile}
use Rattle.profile.specs.Profile.{profile_of}
use Rattle.state.specs.declared.Oep060Timing.{Oep060Timing}
use Rattle.state.specs.declared.Retirement.{Retirement}
use Rattle.step.specs.Boards.{stepped_of}
use Rattle.promises.specs.Factors.{BranchFactors, Factors, factors_of, coarse, with_fallback, Form, constant, apart, floored, charged, SameChange}
use Rattle.promises.proofs.FactorsCost.{cost_from, window_from, joins_by}
use Rattle.promises.proofs.FactorsCache.{byte_from, changed}
use Rattle.promises.proofs.FactorsStep.{window_on, byte_on, step_window, step_cache, change_by}

abbrev form_by : Bool → Bool → Bool → ℕ → ℕ → Form
form_by true joins asked own more = floored
form_by false true true own more = apart more 1
form_by false false true own more = apart more 0
form_by false true false own more = constant (own + more - 1)
form_by false false false own more = constant (own + more)

by_form : (flowed joins asked : Bool) (own more n : ℕ)
    → cond flowed (max n 5) (cond joins (cond asked n own + more - 1) (cond asked n own + more)) ≡ charged (form_by flowed joins asked own more) n
by_form true joins asked own more n = refl
by_form false true true own more n = refl
by_form false false true own more n = omega arith
by_form false true false own more n = refl
by_form false false false own more n = refl

abbrev pub form_from : Instruction → Factors → Option BranchFactors → Form
form_from i f None =
    form_by f.flowed (joins_by i f) (has i.word.0 VARIABLE || has i.word.0 UNCLASSIFIED) (clocks_of i.word.0) (cond (has i.word.0 EA_INDEXED) 1 0)
form_from i f (Some b) = constant (cost_from i f (Some b))

pub in_form : (i : Instruction) (f : Factors) (o : Option BranchFactors) (n : ℕ) → cost_from i (with_fallback f n) o ≡ charged (form_from i f o) n
in_form i f None n =
    by_form f.flowed (joins_by i f) (has i.word.0 VARIABLE || has i.word.0 UNCLASSIFIED) (clocks_of i.word.0) (cond (has i.word.0 EA_INDEXED) 1 0) n
in_form i f (Some b) n = refl

window_with : (i : Instruction) (f : Factors) (o : Option BranchFactors) → window_from i f o ≡ window_from i (with_fallback f 0) o
window_with i f None = refl
window_with i f (Some b) = refl

byte_with : (i : Instruction) (f : Factors) (o : Option BranchFactors) → byte_from i f o ≡ byte_from i (with_fallback f 0) o
byte_with i f None = refl
byte_with i f (Some b) = refl

module _ (P : Profile) (t t' : Oep060Timing) (r r' : Retirement) (e : with_fallback (coarse (factors_of P t r)) 0 ≡ with_fallback (coarse (factors_of P t' r')) 0) where
  abbrev G' : Factors
  G' = with_fallback (coarse (factors_of P t' r')) 0

  pub f_window : unnamed (stepped_of P t r).timing.window ≡ unnamed (stepped_of P t' r').timing.window
  f_window =
      step_window P t r ∙ window_with (profile_of P r.op) (coarse (factors_of P t r)) (factors_of P t r).branch ∙ ap (window_on P) e ∙ sym (window_with (profile_of P r'.op) (coarse (factors_of P t' r')) (factors_of P t' r').branch) ∙ sym (step_window P t' r')

  pub f_change : SameChange P t t' r r'
  f_change =
      change_by P t t' r r' (byte_on P G')
      (step_cache P t r ∙ ap (changed t.cache r.controls.ppc) (byte_with (profile_of P r.op) (coarse (factors_of P t r)) (factors_of P t r).branch)
      ∙ ap (λ (f : Factors). changed t.cache r.controls.ppc (byte_on P f)) e)
      (step_cache P t' r' ∙ ap (changed t'.cache r'.controls.ppc) (byte_with (profile_of P r'.op) (coarse (factors_of P t' r')) (factors_of P t' r').branch))
