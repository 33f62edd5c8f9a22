-- The cost of a retirement and the window that it leaves, made of its factors alone.
-- Assumes nothing.
use Prim.Native.Nat.{ℕ, ◌+◌, ◌-◌, max}
use mathlib.Core.Path.{◌≡◌, refl, sym, ap, ◌∙◌}
use mathlib.Core.Bool.{Bool, true, false, not, cond, ◌&&◌, ◌||◌}
use Rattle.std.specs.Prelude.{Option, Some, None}
use lib.Dec.{eqb}
use Rattle.class_word.specs.Word.{has, class_of, clocks_of, BRANCH, DBCC, VARIABLE, UNCLASSIFIED, EA_INDEXED, DEFINES_CCR, USES_CCR_LATE}
use Rattle.branch_cache.specs.Slot.{predict_of}
use Rattle.branch_cache.specs.Cache.{cache_predict_of}
use Rattle.window.specs.declared.dispatch.Instruction.{Instruction}
use Rattle.window.specs.declared.dispatch.Controls.{Controls}
use Rattle.window.specs.declared.Window.{Window}
use Rattle.window.specs.Windows.{shut, seen, unnamed}
use Rattle.window.specs.Dispatch.{memory, is_simple, late_ccr, second_memory}
use Rattle.cost.specs.declared.branch.Answer.{Answer}
use Rattle.cost.specs.declared.branch.Answer.TheVariants.{NotConsulted}
use Rattle.cost.specs.Retiring.{branch, flow, neither, other_point, point_of}
use Rattle.cost.specs.Branch.{taken_of, branch_cost, heard}
use Rattle.cost.specs.Cost.{plain_of, base_of, pairs, as_head, cost_by, heads_by, window_by, cost_of, window_of}
use Rattle.cost.proofs.Seen.{seen_cost, seen_window}
use Rattle.profile.specs.declared.Profile.{Profile}
use Rattle.profile.specs.Profile.{profile_of}
use Rattle.state.specs.declared.Oep060Timing.{Oep060Timing}
use Rattle.state.specs.declared.Retirement.{Retirement}
use Rattle.state.specs.Events.{answer_of, as_met}
use Rattle.state.specs.CrateCache.{crate_cache}
use Rattle.state.specs.Timing.{state_of}
use Rattle.promises.specs.Factors.{BranchFactors, Factors, touched_of, branch_factors_of, factors_of, coarse}
use Rattle.promises.proofs.Passes.{passes_and}
use Rattle.promises.proofs.FactorsAnswer.{answer_from}

-- ---- of an instruction and factors

abbrev pub joins_by : Instruction → Factors → Bool
joins_by i f =
    f.opened
    && (f.ess && ((f.warm && f.cached) && (is_simple i.word.0
    && (eqb f.touched 0 && not (has i.word.0 USES_CCR_LATE && f.ccr) && not (memory i.word.0 && f.mem)))))

abbrev base_by : Instruction → Factors → ℕ
base_by i f = cond (has i.word.0 VARIABLE || has i.word.0 UNCLASSIFIED) f.fallback (clocks_of i.word.0) + cond (has i.word.0 EA_INDEXED) 1 0

-- the head without its opcode and address
abbrev head_by : Instruction → Factors → Window
head_by i f =
    record {
      opened = true;
      defs = i.defs;
      ccr = has i.word.0 DEFINES_CCR;
      mem = memory i.word.0;
      warm = f.cached;
      op = 0;
      address = 0;
    }

abbrev pub taken_by : Instruction → Factors → BranchFactors → Bool
taken_by i f b = cond (has i.word.0 DBCC) (not b.through) f.flowed

abbrev pub cost_from : Instruction → Factors → Option BranchFactors → ℕ
cost_from i f None = cond f.flowed (max f.fallback 5) (cond (joins_by i f) (base_by i f - 1) (base_by i f))
cost_from i f (Some b) = branch_cost (has i.word.0 DBCC) (taken_by i f b) f.opened (answer_from (f.ebc && f.cached) (Some b))

abbrev pub window_from : Instruction → Factors → Option BranchFactors → Window
window_from i f None = cond (not f.flowed && (not (joins_by i f) && not (eqb (class_of i.word.0) 1))) (head_by i f) shut
window_from i f (Some b) = shut

-- ---- of a retirement these are its cost and its window

-- whether one is touched is kept
one_is : (b : Bool) → not (not b) ≡ eqb (cond b 0 1) 0
one_is true = refl
one_is false = refl

module _ (P : Profile) (t : Oep060Timing) (r : Retirement) where
  abbrev i : Instruction
  i = profile_of P r.op

  abbrev k : Controls
  k = r.controls

  abbrev w : Window
  w = seen t.window

  abbrev F : Factors
  F = coarse (factors_of P t r)

  joins_is : pairs i k w ≡ joins_by i F
  unfolding pairs
  joins_is =
      ap (λ (p : Bool). w.opened && p)
      (passes_and i k w
      ∙ ap (λ (b : Bool). k.ess && ((w.warm && k.cached) && (is_simple i.word.0 && (b && not (late_ccr i.word.0 w) && not (second_memory i.word.0 w)))))
      (one_is (eqb (touched_of i w) 0)))

  other_cost : (f : Bool) (a : Answer)
      → cost_by (cond f flow neither) i k w a ≡ cond f (max F.fallback 5) (cond (joins_by i F) (base_by i F - 1) (base_by i F))
  unfolding base_of plain_of
  other_cost true a = refl
  other_cost false a = ap (λ (p : Bool). cond p (base_of i k - 1) (base_of i k)) joins_is

  -- whether it becomes the head, and the window that it leaves then
  heads_by_lem : (b : Bool) → unnamed (cond b (as_head r.op i k) shut) ≡ cond b (head_by i F) shut
  heads_by_lem true = refl
  heads_by_lem false = refl

  other_window : (f : Bool)
      → unnamed (window_by (cond f flow neither) r.op i k w)
      ≡ cond (not f && (not (joins_by i F) && not (eqb (class_of i.word.0) 1))) (head_by i F) shut
  other_window true = refl
  other_window false =
      heads_by_lem (heads_by neither i k w)
      ∙ ap (λ (p : Bool). cond (not p && not (eqb (class_of i.word.0) 1)) (head_by i F) shut) joins_is

  abbrev answer : Answer
  answer = answer_of crate_cache t.cache i k

  cost_by_lem : (b : Bool) → has i.word.0 BRANCH ≡ b
      → cost_by (cond b branch (other_point k)) i k w answer ≡ cost_from i F (cond b (Some (branch_factors_of t.cache k)) None)
  unfolding answer_of predict_of taken_of
  cost_by_lem true e =
      ap (λ (b : Bool).
      branch_cost (has i.word.0 DBCC) (taken_of i k) w.opened (cond (b && (k.ebc && k.cached)) (heard (cache_predict_of t.cache k.ppc)) NotConsulted)) e
  cost_by_lem false e = other_cost k.flowed answer

  window_by_lem : (b : Bool) → unnamed (window_by (cond b branch (other_point k)) r.op i k w) ≡ window_from i F (cond b (Some (branch_factors_of t.cache k)) None)
  window_by_lem true = refl
  window_by_lem false = other_window k.flowed

  -- a shut window is stepped as it is read
  pub cost_is : cost_of (as_met crate_cache (state_of t) i r) ≡ cost_from i F F.branch
  unfolding cost_of point_of
  cost_is = sym (seen_cost r.op i k t.window answer) ∙ cost_by_lem (has i.word.0 BRANCH) refl

  pub window_is : unnamed (window_of (as_met crate_cache (state_of t) i r)) ≡ window_from i F F.branch
  unfolding window_of point_of
  window_is = ap unnamed (sym (seen_window r.op i k t.window answer)) ∙ window_by_lem (has i.word.0 BRANCH)
