-- The top four bits choose the group: what the code's tests of them say of the rows.
-- Assumes nothing.
use mathlib.Core.Path.{◌≡◌, sym}
use mathlib.Core.Logic.{◌⊎◌, ⊎_elim}
use Prim.Native.Nat.{ℕ, ◌<◌, ◌≤◌}
use native.Mathlib.Nat.{eq-or-lt_of_le}
use native.Mathlib.Omega.{arith}
use borrow.Author.Tests.{le-leb}
use Rattle.masks.specs.declared.registers.RegMasks060.{RegMasks060}
use Rattle.masks.specs.Operands.{move_sets, mask_pair}
use Rattle.masks.specs.Masks.{group_sets, dyadic_sets}

pub group_is : (op g n : ℕ) {r : RegMasks060} → g ≡ n → r ≡ mask_pair (group_sets n op) → r ≡ mask_pair (group_sets g op)
group_is op g n h p = rw h p

pub group_move : (op g : ℕ) {r : RegMasks060} → 1 ≤ g → g ≤ 3 → r ≡ mask_pair (move_sets op) → r ≡ mask_pair (group_sets g op)
group_move op g l u p = rw (le-leb 1 g l, le-leb g 3 u) p

pub group_dyadic : (op g : ℕ) {r : RegMasks060} → ((8 ≤ g) × (g ≤ 9)) ⊎ ((11 ≤ g) × (g ≤ 13)) → r ≡ mask_pair (dyadic_sets op) → r ≡ mask_pair (group_sets g op)
group_dyadic op g h p =
    ⊎_elim (λ (k : (8 ≤ g) × (g ≤ 9)). ⊎_elim (λ (e : 8 ≡ g). group_is op g 8 (sym e) p) (λ (l : 8 < g). group_is op g 9 (omega arith) p) (eq-or-lt_of_le k.0))
    (λ (k : (11 ≤ g) × (g ≤ 13)).
    ⊎_elim (λ (e : 11 ≡ g). group_is op g 11 (sym e) p)
    (λ (l : 11 < g). ⊎_elim (λ (e : 12 ≡ g). group_is op g 12 (sym e) p) (λ (m : 12 < g). group_is op g 13 (omega arith) p) (eq-or-lt_of_le l))
    (eq-or-lt_of_le k.0))
    h
