-- A sound class word's base is at least 1 clock, and exactly 1 where the dispatch test passes, which no BRANCH word does.
-- Assumes nothing.
use Rattle.std.proofs.Common.{◌≡◌, ℕ, ◌+◌, ◌≤◌, Bool, true, false, cond, not, ◌&&◌, ◌||◌, eqb, leb, refl, arith, eq-eqb, eqb-true, leb-true}
use borrow.Author.Tests.{not-true}
use Rattle.bits.proofs.Bools.{and_left, and_right}
use Rattle.class_word.specs.Word.{has, class_of, clocks_of, BRANCH, VARIABLE, UNCLASSIFIED, EA_INDEXED}
use Rattle.window.specs.declared.dispatch.Instruction.{Instruction}
use Rattle.window.specs.declared.dispatch.Controls.{Controls}
use Rattle.window.specs.declared.Window.{Window}
use Rattle.window.specs.Raw.{fallback_of}
use Rattle.window.specs.Dispatch.{passes}
use Rattle.cost.specs.Cost.{plain_of, base_of}
use Rattle.cost.specs.Free.{sound}
use Rattle.window.proofs.RawLaws.{fallback_least}
use Rattle.window.proofs.Rules.{passes_simple}

-- what a sound word has
pub record Sound (word : ℕ) : Type 0 where
  pub clocked : 1 ≤ clocks_of word
  pub single : class_of word ≡ 0 → clocks_of word ≡ 1
  pub unbranched : class_of word ≡ 0 → has word BRANCH ≡ false

pub sound_parts : (word : ℕ) → sound word ≡ true → Sound word
unfolding sound
sound_parts word e =
    let z = eqb (class_of word) 0 in
    let a = leb 1 (clocks_of word) in
    let b = not z || eqb (clocks_of word) 1 in
    let d = not (z && has word BRANCH) in
    let ab = and_left (a && b) d e in
    record {
      clocked = leb-true 1 (clocks_of word) (and_left a b ab);
      single = λ h. eqb-true _ _ (then z (eqb (clocks_of word) 1) (and_right a b ab) (eq-eqb _ _ h));
      unbranched = λ h. not_both_lem z (has word BRANCH) (and_right (a && b) d e) (eq-eqb _ _ h);
    }
  where
    then : (p q : Bool) → (not p || q) ≡ true → p ≡ true → q ≡ true
    then true q f g = f
    then false q f g = cc

    not_both_lem : (p q : Bool) → not (p && q) ≡ true → p ≡ true → q ≡ false
    not_both_lem true q f g = not-true q f
    not_both_lem false q f g = cc

module _ (i : Instruction) (k : Controls) (ok : sound i.word.0 ≡ true) where
  pub base_least : 1 ≤ base_of i k
  unfolding base_of plain_of
  base_least = go (has i.word.0 VARIABLE || has i.word.0 UNCLASSIFIED)
    where
      go : (b : Bool) → 1 ≤ cond b (fallback_of k.raw.0) (clocks_of i.word.0) + cond (has i.word.0 EA_INDEXED) 1 0
      go true = omega (arith, fallback_least k.raw.0)
      go false = omega (arith, (sound_parts i.word.0 ok).clocked)

  pub passes_base : (w : Window) → passes i k w ≡ true → base_of i k ≡ 1
  unfolding base_of plain_of
  passes_base w e =
      let s = passes_simple i k w e in
      simp (s.fixed, s.classified, s.unindexed, (sound_parts i.word.0 ok).single s.class0)

  pub passes_unbranched : (w : Window) → passes i k w ≡ true → has i.word.0 BRANCH ≡ false
  passes_unbranched w e = (sound_parts i.word.0 ok).unbranched (passes_simple i k w e).class0

  pub branch_fails : (w : Window) → has i.word.0 BRANCH ≡ true → passes i k w ≡ false
  branch_fails w e = go (passes i k w) refl
    where
      go : (b : Bool) → passes i k w ≡ b → b ≡ false
      go true p = let f = passes_unbranched w p in cc
      go false p = refl
