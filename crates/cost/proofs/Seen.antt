-- A retirement reads a shut window as `seen` does: its other fields enter neither the cost nor the next window, which has zeros where it is shut.
-- Assumes nothing.
use Rattle.std.proofs.Common.{◌≡◌, ℕ, ◌-◌, Bool, true, false, cond, not, ◌&&◌, eqb, sym, refl, ap}
use Rattle.class_word.specs.Word.{has, class_of, DBCC}
use Rattle.window.specs.declared.dispatch.Instruction.{Instruction}
use Rattle.window.specs.declared.dispatch.Controls.{Controls}
use Rattle.window.specs.declared.Window.{Window}
use Rattle.cost.specs.declared.branch.Answer.{Answer}
use Rattle.cost.specs.Retiring.{retiring, Point, branch, flow, neither, point_of}
use Rattle.window.specs.Windows.{shut, seen}
use Rattle.window.specs.Dispatch.{passes}
use Rattle.cost.specs.Branch.{taken_of, branch_cost}
use Rattle.cost.specs.Cost.{base_of, pairs, as_head, cost_by, heads_by, window_by, cost_of, window_of}

module _ (op : ℕ) (i : Instruction) (k : Controls) (w : Window) (a : Answer) where
  cost_by_lem : (x : Point) (o : Bool) → w.opened ≡ o → cost_by x i k (cond o w shut) a ≡ cost_by x i k w a
  unfolding pairs
  cost_by_lem x true e = refl
  cost_by_lem branch false e = ap (λ (o : Bool). branch_cost (has i.word.0 DBCC) (taken_of i k) o a) (sym e)
  cost_by_lem flow false e = refl
  cost_by_lem neither false e = ap (λ (o : Bool). cond (o && passes i k w) (base_of i k - 1) (base_of i k)) (sym e)

  window_by_lem : (x : Point) (o : Bool) → w.opened ≡ o → window_by x op i k (cond o w shut) ≡ window_by x op i k w
  unfolding pairs
  window_by_lem x true e = refl
  window_by_lem branch false e = refl
  window_by_lem flow false e = refl
  window_by_lem neither false e =
      ap (λ (o : Bool). cond (not (o && passes i k w) && not (eqb (class_of i.word.0) 1)) (as_head op i k) shut) (sym e)

  pub seen_cost : cost_of (retiring op i k (seen w) a) ≡ cost_of (retiring op i k w a)
  unfolding cost_of
  seen_cost = cost_by_lem (point_of i k) w.opened refl

  pub seen_window : window_of (retiring op i k (seen w) a) ≡ window_of (retiring op i k w a)
  unfolding window_of
  seen_window = window_by_lem (point_of i k) w.opened refl

  next_by : (heads : Bool) → seen (cond heads (as_head op i k) shut) ≡ cond heads (as_head op i k) shut
  next_by true = refl
  next_by false = refl

  pub next_seen : seen (window_of (retiring op i k w a)) ≡ window_of (retiring op i k w a)
  unfolding window_of
  next_seen = next_by (heads_by (point_of i k) i k w)
