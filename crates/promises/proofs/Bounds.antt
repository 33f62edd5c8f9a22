-- Demand 3's lower bounds: an open window is worth one retirement, and two retirements cost at least 1.
-- Assumes nothing.
use mathlib.Core.Path.{◌≡◌, refl, ap}
use mathlib.Core.Bool.{Bool, true, false, cond}
use mathlib.Core.List.{List, [], ◌∷◌}
use Prim.Native.Nat.{ℕ, zero, suc, ◌+◌, ◌*◌, ◌/◌, ◌≤◌}
use native.Mathlib.Omega.{arith}
use lib.ListN.{length}
use Rattle.bits.specs.Words.{num}
use Rattle.bits.proofs.Words.{num_small}
use Rattle.window.specs.declared.Window.{Window}
use Rattle.cost.specs.Retiring.{Retiring}
use Rattle.window.specs.Windows.{shut, seen}
use Rattle.cost.specs.Cost.{cost_of, window_of}
use Rattle.cost.specs.Free.{sound}
use Rattle.cost.proofs.Zero.{zero_shuts}
use Rattle.state.specs.declared.Event.{Event}
use Rattle.state.specs.declared.Event.TheVariants.{Retired, Broken, ClearedAll, ClearedUser}
use Rattle.state.specs.Board.{Board}
use Rattle.state.specs.Events.{State, retiring_of, after, retirements, costs, total}
use Rattle.promises.specs.Demand3.{Sound}

-- what an open window is worth
abbrev credit : Window → ℕ
credit w = num w.opened

credit_seen : (w : Window) → credit (seen w) ≡ credit w
credit_seen w = go w.opened refl
  where
    go : (b : Bool) → w.opened ≡ b → credit (cond b w shut) ≡ num w.opened
    go true e = refl
    go false e = rw e

-- one retirement, and the window it leaves, are paid by twice its cost and the window it met
turn : (r : Retiring) → sound r.instruction.word.0 ≡ true → 1 + credit (window_of r) ≤ 2 * cost_of r + credit r.window
turn r ok = go (cost_of r) refl
  where
    go : (n : ℕ) → cost_of r ≡ n → 1 + credit (window_of r) ≤ 2 * cost_of r + credit r.window
    go zero e =
        let h = zero_shuts r ok e in
        omega (arith, ap num h.0, ap credit h.1)
    go (suc n) e = omega (arith, num_small (window_of r).opened)

module _ (B : Board) (ok : Sound B) where
  paid : (s : State B.rule) (es : List Event) → length (retirements B s es) ≤ 2 * total (costs B s es) + credit s.window
  unfolding retirements
  paid s [] = omega arith
  paid s (Retired r ∷ es) = omega (arith, turn (retiring_of B s r) (ok r.op), paid (after B s (Retired r)) es)
  paid s (Broken ∷ es) = omega (arith, paid (after B s Broken) es)
  paid s (ClearedAll ∷ es) = omega (arith, credit_seen s.window, paid (after B s ClearedAll) es)
  paid s (ClearedUser ∷ es) = omega (arith, credit_seen s.window, paid (after B s ClearedUser) es)

  pub at_least_lem : (s : State B.rule) (es : List Event) → length (retirements B s es) / 2 ≤ total (costs B s es)
  at_least_lem s es = omega (arith, paid s es, num_small s.window.opened)

  pub at_least_shut_lem : (s : State B.rule) (es : List Event) → s.window.opened ≡ false
      → (length (retirements B s es) + 1) / 2 ≤ total (costs B s es)
  at_least_shut_lem s es e = omega (arith, paid s es, ap num e)
