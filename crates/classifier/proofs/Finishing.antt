-- The table's one computed test, and what it says of each opcode: the row's number is the number of the one rule that gives the row its class words.
-- Assumes nothing.
use mathlib.Core.Path.{◌≡◌, refl, sym, ap, ◌∙◌}
use mathlib.Core.Bool.{Bool, true, false, not, ◌&&◌}
use mathlib.Core.List.{List, [], ◌∷◌}
use Prim.Native.Nat.{ℕ, zero, suc, ◌+◌, ◌*◌, ◌<◌, ◌≤◌}
use native.Mathlib.Nat.{add-zero, le_of_suc-le-suc, not-suc-le-zero}
use native.Mathlib.Omega.{arith}
use lib.Dec.{eqb, ltb}
use lib.ListN.{length, get_or}
use borrow.Author.Tests.{eqb-true, eq-eqb, ltb-true, ne_eqb}
use Rattle.bits.specs.Below.{every_below}
use Rattle.bits.specs.Pattern.{matches}
use Rattle.bits.proofs.Below.{each_below, every_below_lem, first_is, first_passes, first_most}
use Rattle.bits.proofs.Bools.{and_left, and_right, not_true}
use Rattle.class_word.specs.declared.Info060.{Info060}
use Rattle.class_word.specs.Word.{info}
use Rattle.classifier.specs.Entry.{ea}
use Rattle.classifier.specs.Classify.{classify_of}
use Rattle.classifier.specs.Rules.{rule_count, rules, finish_of, row_of, six_of, finishes, rule_of}

-- ---- a rule by its number
pub by_rule : (six : ℕ) {n m : ℕ} {r : Info060} → n ≡ m → r ≡ info (finish_of m six) → r ≡ info (finish_of n six)
by_rule six h p = rw h p

-- none of the numbers below k, as the code's match says it
abbrev pub NoneBelow : ℕ → ℕ → Type 0
NoneBelow n zero = Unit {0}
NoneBelow n (suc k) = NoneBelow n k × (n ≡ k → ⊥)

pub past : (n k : ℕ) → NoneBelow n k → k ≤ n
past n zero h = omega arith
past n (suc k) h = let l : k ≤ n = past n k h.0 in let d : n ≡ k → ⊥ = h.1 in omega arith

-- the last rule is that of all numbers from 28 on
pub last_rule : (n six : ℕ) → 28 ≤ n → finish_of n six ≡ finish_of 28 six
unfolding finish_of rules
last_rule n six h =
    let no : (k : ℕ) → k < 28 → eqb n k ≡ false = λ k l. ne_eqb n k (λ (e : n ≡ k). omega arith) in
    rw (
      no 0 (omega arith),
      no 1 (omega arith),
      no 2 (omega arith),
      no 3 (omega arith),
      no 4 (omega arith),
      no 5 (omega arith),
      no 6 (omega arith),
      no 7 (omega arith),
      no 8 (omega arith),
      no 9 (omega arith),
      no 10 (omega arith),
      no 11 (omega arith),
      no 12 (omega arith),
      no 13 (omega arith),
      no 14 (omega arith),
      no 15 (omega arith),
      no 16 (omega arith),
      no 17 (omega arith),
      no 18 (omega arith),
      no 19 (omega arith),
      no 20 (omega arith),
      no 21 (omega arith),
      no 22 (omega arith),
      no 23 (omega arith),
      no 24 (omega arith),
      no 25 (omega arith),
      no 26 (omega arith),
      no 27 (omega arith),
    )

-- ---- the test: each row's number is a rule's, and the rule finishes the row
abbrev pub right_from : ℕ → List ℕ → Bool
right_from row [] = true
right_from row (n ∷ ns) = (ltb n rule_count && finishes n row) && right_from (suc row) ns

right_from_lem : (row : ℕ) (ns : List ℕ) → right_from row ns ≡ true → (k : ℕ) → k < length ns
    → (ltb (get_or ns k 0) rule_count && finishes (get_or ns k 0) (row + k)) ≡ true
right_from_lem row [] t k h = absurd (not-suc-le-zero h)
right_from_lem row (n ∷ ns) t zero h = rw (add-zero row) (and_left (ltb n rule_count && finishes n row) (right_from (suc row) ns) t)
right_from_lem row (n ∷ ns) t (suc k) h =
    let e : row + suc k ≡ suc row + k = omega arith in
    rw e (right_from_lem (suc row) ns (and_right (ltb n rule_count && finishes n row) (right_from (suc row) ns) t) k (le_of_suc-le-suc h))

-- ---- no two rules are alike
abbrev alike : ℕ → ℕ → Bool
alike q r = every_below 64 (λ six. eqb (finish_of q six) (finish_of r six))

differ_tested : every_below rule_count (λ r. every_below r (λ q. not (alike q r))) ≡ true
unfolding finish_of rules matches ea
differ_tested = refl

differ : (q r : ℕ) → q < r → r < rule_count → alike q r ≡ true → ⊥
differ q r l h = not_true (each_below r (λ q. not (alike q r)) (each_below rule_count (λ r. every_below r (λ q. not (alike q r))) differ_tested r h) q l)

pub rules_differ_lem : (q r : ℕ) → q < r → r < rule_count → ((six : ℕ) → six < 64 → finish_of q six ≡ finish_of r six) → ⊥
rules_differ_lem q r l h f =
    differ q r l h (every_below_lem 64 (λ six. eqb (finish_of q six) (finish_of r six)) (λ six k. eq-eqb (finish_of q six) (finish_of r six) (f six k)))

finished_at : (n row : ℕ) → finishes n row ≡ true → (six : ℕ) → six < 64 → finish_of n six ≡ classify_of (64 * row + six)
unfolding finishes
finished_at n row t six h = eqb-true _ _ (each_below 64 (λ six. eqb (finish_of n six) (classify_of (64 * row + six))) t six h)

-- a rule that finishes the row is the row's rule
rule_is : (row r : ℕ) → r < rule_count → finishes r row ≡ true → rule_of row ≡ r
unfolding rule_of
rule_is row r h t = first_is rule_count (λ n. finishes n row) r h t (λ q l. none q l (finishes q row) refl)
  where
    none : (q : ℕ) → q < r → (b : Bool) → finishes q row ≡ b → finishes q row ≡ false
    none q l true e = absurd (rules_differ_lem q r l h (λ six k. finished_at q row e six k ∙ sym (finished_at r row t six k)))
    none q l false e = e

module _ (ns : List ℕ) (t : right_from 0 ns ≡ true) (row : ℕ) (h : row < length ns) where
  here : (ltb (get_or ns row 0) rule_count && finishes (get_or ns row 0) row) ≡ true
  here = let e : 0 + row ≡ row = omega arith in rw e at (right_from_lem 0 ns t row h)

  pub named : get_or ns row 0 < rule_count
  named = ltb-true _ _ (and_left (ltb (get_or ns row 0) rule_count) (finishes (get_or ns row 0) row) here)

  pub named_rule : get_or ns row 0 ≡ rule_of row
  named_rule = sym (rule_is row (get_or ns row 0) named (and_right (ltb (get_or ns row 0) rule_count) (finishes (get_or ns row 0) row) here))

-- a row that has a rule is finished by it, at each of its opcodes
pub rule_finishes : (op : ℕ) → rule_of (row_of op) < rule_count → finish_of (rule_of (row_of op)) (six_of op) ≡ classify_of op
unfolding rule_of
rule_finishes op h =
    let e : 64 * row_of op + six_of op ≡ op = omega arith in
    finished_at (rule_of (row_of op)) (row_of op) (first_passes rule_count (λ n. finishes n (row_of op)) h) (six_of op) (omega arith) ∙ ap classify_of e

-- no row's number is above the count of the rules
pub rule_most : (row : ℕ) → rule_of row ≤ rule_count
unfolding rule_of
rule_most row = first_most rule_count (λ n. finishes n row)
