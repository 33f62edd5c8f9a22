-- The top four bits choose the group: what an arm of the code's match says of the definition's rows.
-- Assumes nothing.
use mathlib.Core.Path.{◌≡◌}
use mathlib.Core.Bool.{true, false}
use Prim.Native.Nat.{ℕ, ◌<◌, ◌≤◌}
use native.Mathlib.Omega.{arith}
use lib.Dec.{eqb, leb}
use borrow.Author.Tests.{ne_eqb, le-leb, lt-leb}
use Rattle.bits.specs.Rows.{otherwise, first}
use Rattle.class_word.specs.declared.Info060.{Info060}
use Rattle.classifier.specs.Entry.{packed, unclassified}
use Rattle.classifier.specs.LowGroups.{move}
use Rattle.classifier.specs.Classify.{groups}

-- a group of one number
pub group_is : (op : ℕ) {g n : ℕ} {r : Info060} → g ≡ n → r ≡ packed (first (groups n op)) → r ≡ packed (first (groups g op))
group_is op h p = rw h p

-- groups 1 to 3
pub group_move : (op g : ℕ) {r : Info060} → (g ≡ 0 → ⊥) → g < 4 → r ≡ packed (move op) → r ≡ packed (first (groups g op))
group_move op g a b p =
    let l : 1 ≤ g = omega arith in
    let u : g ≤ 3 = omega arith in
    rw (ne_eqb g 0 a, le-leb 1 g l, le-leb g 3 u) p

-- no group that has rows of its own
pub group_none : (op g : ℕ) {r : Info060} → 4 ≤ g → (g ≡ 4 → ⊥) → (g ≡ 5 → ⊥) → (g ≡ 6 → ⊥) → (g ≡ 7 → ⊥) → (g ≡ 8 → ⊥) → (g ≡ 9 → ⊥) → (g ≡ 13 → ⊥)
    → (g ≡ 11 → ⊥) → (g ≡ 12 → ⊥) → (g ≡ 14 → ⊥) → r ≡ packed (otherwise unclassified) → r ≡ packed (first (groups g op))
group_none op g h h4 h5 h6 h7 h8 h9 h13 h11 h12 h14 p =
    let z : eqb g 0 ≡ false = ne_eqb g 0 (λ (k : g ≡ 0). omega arith) in
    let t : leb g 3 ≡ false = lt-leb g 3 (omega arith) in
    let o : leb 1 g ≡ true = le-leb 1 g (omega arith) in
    rw (z, o, t, ne_eqb g 4 h4, ne_eqb g 5 h5, ne_eqb g 6 h6, ne_eqb g 7 h7, ne_eqb g 8 h8, ne_eqb g 9 h9, ne_eqb g 13 h13, ne_eqb g 11 h11, ne_eqb g 12 h12, ne_eqb g 14 h14) p
