-- The clocks that a reason fixes are the step's; and over a sound word a retirement costs 0 exactly where it is paired or folded.
-- Assumes nothing.
use Prim.Native.Nat.{ℕ}
use mathlib.Core.Path.{◌≡◌, refl, sym, ap, ◌∙◌}
use mathlib.Core.Bool.{Bool, true, false, not, cond, ◌&&◌, ◌||◌, true≢false}
use mathlib.Core.Option.{some}
use lib.Dec.{eqb}
use borrow.Author.Tests.{eqb-true}
use Rattle.class_word.specs.Word.{has, BRANCH, DBCC}
use Rattle.std.specs.Prelude.{None, Option, Some}
use Rattle.window.specs.declared.dispatch.Rule.{Rule}
use Rattle.window.specs.declared.dispatch.Rule.TheVariants.{EssOn, BothCached, Simple, RegistersFree, NoLateCcr, OneMemory}
use Rattle.window.specs.Dispatch.{failing, is_passed, passes}
use Rattle.cost.specs.declared.branch.Answer.{Answer}
use Rattle.cost.specs.declared.branch.Answer.TheVariants.{NotConsulted, Miss, PredictedNotTaken, PredictedTaken}
use Rattle.cost.specs.Branch.{predicts_taken, branch_cost, taken_of}
use Rattle.cost.specs.Cost.{cost_by, cost_of}
use Rattle.cost.specs.Retiring.{Retiring, Point, branch, flow, neither, point_of}
use Rattle.cost.specs.Free.{sound, free}
use Rattle.cost.proofs.Sound.{branch_fails}
use Rattle.cost.proofs.Zero.{and_false, or_false, zero_exactly_lem}
use Rattle.reasons.specs.declared.reason.Reason.TheVariants.{WindowShut}
use Rattle.reasons.specs.Reasons.{of_rule, dispatched, branch_reason, reason_by, reason_of}
use Rattle.reasons.specs.Fits.{point, fixed_cost, costs_nothing}

-- ---- 0 exactly where it is paired or folded

branch_free : (t o : Bool) (a : Answer) → (o && (predicts_taken a && t)) ≡ costs_nothing (branch_reason t o a)
branch_free t true NotConsulted = refl
branch_free t false NotConsulted = refl
branch_free true true Miss = refl
branch_free true false Miss = refl
branch_free false true Miss = refl
branch_free false false Miss = refl
branch_free true true PredictedNotTaken = refl
branch_free true false PredictedNotTaken = refl
branch_free false true PredictedNotTaken = refl
branch_free false false PredictedNotTaken = refl
branch_free true true PredictedTaken = refl
branch_free true false PredictedTaken = refl
branch_free false true PredictedTaken = refl
branch_free false false PredictedTaken = refl

rule_costs : (rule : Rule) → costs_nothing (of_rule rule) ≡ false
rule_costs EssOn = refl
rule_costs BothCached = refl
rule_costs Simple = refl
rule_costs RegistersFree = refl
rule_costs NoLateCcr = refl
rule_costs OneMemory = refl

other_free : (o : Bool) (d : Option Rule) → (o && is_passed d) ≡ costs_nothing (cond o (dispatched d) WindowShut)
other_free true None = refl
other_free true (Some rule) = sym (rule_costs rule)
other_free false d = refl

module _ (r : Retiring) (ok : sound r.instruction.word.0 ≡ true) where
  free_by : (b f : Bool) → has r.instruction.word.0 BRANCH ≡ b
      → (r.window.opened && ((not f && passes r.instruction r.controls r.window) || (b && predicts_taken r.answer && taken_of r.instruction r.controls)))
      ≡ costs_nothing (reason_by (cond b branch (cond f flow neither)) r.instruction r.controls r.window r.answer)
  free_by true f e =
      rw (branch_fails r.instruction r.controls ok r.window e, and_false (not f)) (branch_free (taken_of r.instruction r.controls) r.window.opened r.answer)
  free_by false true e = and_false r.window.opened
  free_by false false e = rw (or_false (passes r.instruction r.controls r.window)) (other_free r.window.opened (failing r.instruction r.controls r.window))

  free_is : free r ≡ costs_nothing (reason_of r)
  unfolding free reason_of point_of
  free_is = free_by (has r.instruction.word.0 BRANCH) r.controls.flowed refl

  pub zero_told : eqb (cost_of r) 0 ≡ costs_nothing (reason_of r)
  zero_told = zero_exactly_lem r ok ∙ free_is

-- ---- the clocks that a reason fixes

branch_fixed : (d t o : Bool) (a : Answer) {n : ℕ} → fixed_cost (branch_reason t o a) ≡ some n → branch_cost d t o a ≡ n
branch_fixed d t o NotConsulted h = cc
branch_fixed d true o Miss h = cc
branch_fixed d false o Miss h = cc
branch_fixed d true o PredictedNotTaken h = cc
branch_fixed d false o PredictedNotTaken h = cc
branch_fixed d true true PredictedTaken h = cc
branch_fixed d true false PredictedTaken h = cc
branch_fixed d false o PredictedTaken h = cc

rule_fixes : (rule : Rule) {n : ℕ} → fixed_cost (of_rule rule) ≡ some n → ◌≡◌ {A = Bool} true false
rule_fixes EssOn h = cc
rule_fixes BothCached h = cc
rule_fixes Simple h = cc
rule_fixes RegistersFree h = cc
rule_fixes NoLateCcr h = cc
rule_fixes OneMemory h = cc

-- of what is neither branch nor flow, a reason that fixes a cost is `paired`
other_fixed : (o : Bool) (d : Option Rule) {n : ℕ} → fixed_cost (cond o (dispatched d) WindowShut) ≡ some n → (costs_nothing (cond o (dispatched d) WindowShut) ≡ true) × (0 ≡ n)
other_fixed true None h = (refl, cc)
other_fixed true (Some rule) h = absurd (true≢false (rule_fixes rule h))
other_fixed false d h = (cc, cc)

by_point : (r : Retiring) {x : Point} → point r ≡ x → reason_of r ≡ reason_by x r.instruction r.controls r.window r.answer
unfolding reason_of
by_point r e = ap (λ (x : Point). reason_by x r.instruction r.controls r.window r.answer) e

module _ (r : Retiring) (ok : sound r.instruction.word.0 ≡ true) {n : ℕ} where
  fixed_by : (x : Point) → point r ≡ x → fixed_cost (reason_by x r.instruction r.controls r.window r.answer) ≡ some n → cost_of r ≡ n
  unfolding cost_of
  fixed_by branch e h =
      ap (λ (x : Point). cost_by x r.instruction r.controls r.window r.answer) e
      ∙ branch_fixed (has r.instruction.word.0 DBCC) (taken_of r.instruction r.controls) r.window.opened r.answer h
  fixed_by flow e h = cc
  fixed_by neither e h =
      let f = other_fixed r.window.opened (failing r.instruction r.controls r.window) h in
      eqb-true (cost_of r) 0 (zero_told r ok ∙ ap costs_nothing (by_point r e) ∙ f.0) ∙ f.1

  pub fixed_cost_lem : fixed_cost (reason_of r) ≡ some n → cost_of r ≡ n
  unfolding reason_of
  fixed_cost_lem = fixed_by (point r) refl
