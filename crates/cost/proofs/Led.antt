-- The window that a retirement leaves, by whether its instruction becomes the head: then it is its own, else it is shut. And its kind, by BRANCH.
-- Assumes nothing.
use Rattle.std.proofs.Common.{◌≡◌, ℕ, Bool, true, false, cond, refl, ap}
use Rattle.class_word.specs.Word.{has, BRANCH}
use Rattle.window.specs.declared.dispatch.Instruction.{Instruction}
use Rattle.window.specs.declared.dispatch.Controls.{Controls}
use Rattle.window.specs.declared.Window.{Window}
use Rattle.window.specs.Windows.{shut}
use Rattle.cost.specs.declared.branch.Answer.{Answer}
use Rattle.cost.specs.Retiring.{Point, branch, flow, neither, other_point, point_of}
use Rattle.cost.specs.Cost.{as_head, cost_by, heads_by, window_by}

-- where it is known whether it becomes the head
module _ (x : Point) (op : ℕ) (i : Instruction) (k : Controls) (w : Window) where
  pub led_open : heads_by x i k w ≡ true → window_by x op i k w ≡ as_head op i k
  led_open e = rw e

  pub led_shut : heads_by x i k w ≡ false → window_by x op i k w ≡ shut
  led_shut e = rw e

  -- it is open there alone
  pub led_opened : (window_by x op i k w).opened ≡ heads_by x i k w
  led_opened = go (heads_by x i k w) refl
    where
      go : (b : Bool) → heads_by x i k w ≡ b → (window_by x op i k w).opened ≡ b
      go true e = ap (λ (v : Window). v.opened) (led_open e)
      go false e = ap (λ (v : Window). v.opened) (led_shut e)

-- the kind of a retirement, once it is known whether it is a branch
module _ (i : Instruction) (k : Controls) where
  pub kind_branch : has i.word.0 BRANCH ≡ true → point_of i k ≡ branch
  unfolding point_of
  kind_branch e = rw e

  pub kind_other : has i.word.0 BRANCH ≡ false → point_of i k ≡ other_point k
  unfolding point_of
  kind_other e = rw e

-- of what is no branch the cache's answer does not count
pub other_cost : (i : Instruction) (k : Controls) (w : Window) (a b : Answer) → cost_by (other_point k) i k w a ≡ cost_by (other_point k) i k w b
other_cost i k w a b = go k.flowed
  where
    go : (f : Bool) → cost_by (cond f flow neither) i k w a ≡ cost_by (cond f flow neither) i k w b
    go true = refl
    go false = refl
