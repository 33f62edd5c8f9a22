-- The class word and the masks of one group, joined; and the masks of the two groups that have no row.
-- Assumes nothing.
use mathlib.Core.Path.{◌≡◌, sym, ap₂, ◌∙◌}
use mathlib.Core.Logic.{⊎_elim}
use Prim.Native.Nat.{ℕ, ◌<◌, ◌≤◌}
use native.Mathlib.Nat.{eq-or-lt_of_le}
use native.Mathlib.Omega.{arith}
use Rattle.class_word.specs.declared.Info060.{Info060}
use Rattle.class_word.specs.Word.{info}
use Rattle.classifier.specs.Classify.{classify_of}
use Rattle.masks.specs.declared.registers.RegMasks060.{RegMasks060}
use Rattle.masks.specs.Operands.{undecoded, mask_pair}
use Rattle.masks.specs.Masks.{group_sets, masks_of}
use Rattle.masks.proofs.MasksGroups.{group_is}
use Rattle.window.specs.declared.dispatch.Instruction.{Instruction}
use Rattle.profile.specs.Profile.{joined_of, crate_profile}

pub both : (op : ℕ) {r : Instruction} {w : Info060} {m : RegMasks060} → r ≡ joined_of w m → w ≡ info (classify_of op) → m ≡ masks_of op → r ≡ crate_profile op
both op h e f = h ∙ ap₂ joined_of e f

past_nine : (g : ℕ) → 4 ≤ g → (g ≡ 4 → ⊥) → (g ≡ 5 → ⊥) → (g ≡ 6 → ⊥) → (g ≡ 7 → ⊥) → (g ≡ 8 → ⊥) → (g ≡ 9 → ⊥) → 10 ≤ g
past_nine g low h4 h5 h6 h7 h8 h9 = omega arith

fifteen : (g : ℕ) → g < 16 → 10 < g → (g ≡ 13 → ⊥) → (g ≡ 11 → ⊥) → (g ≡ 12 → ⊥) → (g ≡ 14 → ⊥) → g ≡ 15
fifteen g top l h13 h11 h12 h14 = omega arith

-- groups 10 and 15
pub group_none : (op g : ℕ) {m : RegMasks060} → g < 16 → 4 ≤ g → (g ≡ 4 → ⊥) → (g ≡ 5 → ⊥) → (g ≡ 6 → ⊥) → (g ≡ 7 → ⊥) → (g ≡ 8 → ⊥) → (g ≡ 9 → ⊥) → (g ≡ 13 → ⊥)
    → (g ≡ 11 → ⊥) → (g ≡ 12 → ⊥) → (g ≡ 14 → ⊥) → m ≡ mask_pair undecoded → m ≡ mask_pair (group_sets g op)
group_none op g top low h4 h5 h6 h7 h8 h9 h13 h11 h12 h14 p =
    ⊎_elim (λ (e : 10 ≡ g). group_is op g 10 (sym e) p) (λ (l : 10 < g). group_is op g 15 (fifteen g top l h13 h11 h12 h14) p)
    (eq-or-lt_of_le (past_nine g low h4 h5 h6 h7 h8 h9))
