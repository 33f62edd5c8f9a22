-- One retirement: it costs 0 exactly where it is free, the window is then shut, and a pair costs its base less 1, which is 0.
-- Assumes nothing.
use Rattle.std.proofs.Common.{◌≡◌, ℕ, ◌-◌, Bool, true, false, cond, not, ◌&&◌, ◌||◌, eqb, sym, refl, ap, ◌∙◌, arith, eq-eqb, ne_eqb}
use Rattle.bits.proofs.Bools.{and_left, and_right}
use Rattle.class_word.specs.Word.{has, BRANCH, DBCC}
use Rattle.window.specs.declared.dispatch.Instruction.{Instruction}
use Rattle.window.specs.declared.dispatch.Controls.{Controls}
use Rattle.window.specs.declared.Window.{Window}
use Rattle.cost.specs.declared.branch.Answer.{Answer}
use Rattle.cost.specs.declared.branch.Answer.TheVariants.{NotConsulted, Miss, PredictedNotTaken, PredictedTaken}
use Rattle.cost.specs.Retiring.{Retiring, branch, flow, neither, point_of}
use Rattle.window.specs.Windows.{shut}
use Rattle.window.specs.Dispatch.{passes}
use Rattle.cost.specs.Branch.{taken_of, predicts_taken, static_cost, asked_cost, branch_cost}
use Rattle.cost.specs.Cost.{flow_cost, base_of, pairs, cost_by, heads_by, cost_of, window_of}
use Rattle.cost.specs.Free.{sound, joining, folding, free}
use Rattle.cost.proofs.Led.{led_shut}
use Rattle.cost.proofs.Sound.{base_least, passes_base, passes_unbranched, branch_fails}

pub and_false : (b : Bool) → (b && false) ≡ false
and_false true = refl
and_false false = refl

pub or_false : (b : Bool) → (b || false) ≡ b
or_false true = refl
or_false false = refl

-- a branch costs 0 where it was predicted taken, is, and the window was open
static_zero : (d t o : Bool) → eqb (static_cost d t) 0 ≡ (o && false)
static_zero true true o = sym (and_false o)
static_zero true false o = sym (and_false o)
static_zero false true o = sym (and_false o)
static_zero false false o = sym (and_false o)

asked_zero : (p t o : Bool) → eqb (asked_cost p t o) 0 ≡ (o && (p && t))
asked_zero true true true = refl
asked_zero true true false = refl
asked_zero true false o = sym (and_false o)
asked_zero false true o = sym (and_false o)
asked_zero false false o = sym (and_false o)

branch_zero : (d t o : Bool) (a : Answer) → eqb (branch_cost d t o a) 0 ≡ (o && (predicts_taken a && t))
branch_zero d t o NotConsulted = static_zero d t o
branch_zero d t o Miss = asked_zero false t o
branch_zero d t o PredictedNotTaken = asked_zero false t o
branch_zero d t o PredictedTaken = asked_zero true t o

module _ (i : Instruction) (k : Controls) (w : Window) (a : Answer) where
  -- by BRANCH, b, and flowed, f
  zero_by : sound i.word.0 ≡ true → (b f : Bool) → has i.word.0 BRANCH ≡ b
      → eqb (cost_by (cond b branch (cond f flow neither)) i k w a) 0
      ≡ (w.opened && ((not f && passes i k w) || (b && predicts_taken a && taken_of i k)))
  unfolding pairs
  zero_by ok true f e =
      rw (branch_fails i k ok w e, and_false (not f)) (branch_zero (has i.word.0 DBCC) (taken_of i k) w.opened a)
  zero_by ok false true e = ne_eqb (flow_cost k.raw.0) 0 (λ z. omega arith) ∙ sym (and_false w.opened)
  zero_by ok false false e = rw (or_false (passes i k w)) (go (w.opened && passes i k w) refl)
    where
      go : (b : Bool) → (w.opened && passes i k w) ≡ b → eqb (cond b (base_of i k - 1) (base_of i k)) 0 ≡ b
      go true p = eq-eqb (base_of i k - 1) 0 (omega (arith, passes_base i k ok w (and_right w.opened (passes i k w) p)))
      go false p = ne_eqb (base_of i k) 0 (λ z. omega (arith, base_least i k ok))

  shut_by : (b f : Bool) → (w.opened && ((not f && passes i k w) || (b && predicts_taken a && taken_of i k))) ≡ true
      → heads_by (cond b branch (cond f flow neither)) i k w ≡ false
  unfolding pairs
  shut_by true f e = refl
  shut_by false true e = refl
  shut_by false false e = rw (rw (or_false (passes i k w)) at e)

pub zero_exactly_lem : (r : Retiring) → sound r.instruction.word.0 ≡ true → eqb (cost_of r) 0 ≡ free r
unfolding cost_of point_of free
zero_exactly_lem r ok =
    zero_by r.instruction r.controls r.window r.answer ok (has r.instruction.word.0 BRANCH) r.controls.flowed refl

pub free_shuts : (r : Retiring) → free r ≡ true → window_of r ≡ shut
unfolding window_of point_of free
free_shuts r e =
    let i = r.instruction in
    let k = r.controls in
    let w = r.window in
    led_shut (point_of i k) r.op i k w (shut_by i k w r.answer (has i.word.0 BRANCH) k.flowed e)

-- a retirement that costs nothing found the window open and shut it
pub zero_shuts : (r : Retiring) → sound r.instruction.word.0 ≡ true → cost_of r ≡ 0
    → (r.window.opened ≡ true) × (window_of r ≡ shut)
unfolding free
zero_shuts r ok z =
    let e : free r ≡ true = sym (zero_exactly_lem r ok) ∙ eq-eqb _ _ z in
    (and_left r.window.opened (joining r || folding r) e, free_shuts r e)

-- over any word, sound or not: "base less 1"
pub pair_cost_lem : (r : Retiring) → has r.instruction.word.0 BRANCH ≡ false → r.controls.flowed ≡ false → r.window.opened ≡ true
    → passes r.instruction r.controls r.window ≡ true → cost_of r ≡ base_of r.instruction r.controls - 1
unfolding cost_of point_of pairs
pair_cost_lem r b f o p = simp (b, f, o, p)

-- over a sound word: "always 0", since the test leaves it 1 clock; nor is it a branch, by the same test
pub pair_costs_nothing_lem : (r : Retiring) → sound r.instruction.word.0 ≡ true → r.controls.flowed ≡ false → r.window.opened ≡ true
    → passes r.instruction r.controls r.window ≡ true → cost_of r ≡ 0
pair_costs_nothing_lem r ok f o p =
    let i = r.instruction in
    let k = r.controls in
    pair_cost_lem r (passes_unbranched i k ok r.window p) f o p ∙ ap (λ (n : ℕ). n - 1) (passes_base i k ok r.window p)
