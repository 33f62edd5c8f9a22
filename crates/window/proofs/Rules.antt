-- Where none of a list fails, all hold. So a follower that passes the dispatch test is of class 0, and not indexed, unclassified or variable.
-- Assumes nothing.
use mathlib.Core.Path.{◌≡◌, refl, sym, ap, ◌∙◌}
use mathlib.Core.Bool.{Bool, true, false, not, cond, ◌&&◌, true≢false}
use mathlib.Core.List.{List, [], ◌∷◌}
use Prim.Native.Nat.{ℕ}
use lib.Dec.{eqb}
use borrow.Author.Tests.{eqb-true, not-true}
use Rattle.bits.proofs.Bools.{and_left, and_right}
use Rattle.class_word.specs.Word.{has, class_of, VARIABLE, UNCLASSIFIED, EA_INDEXED}
use Rattle.window.specs.declared.dispatch.Instruction.{Instruction}
use Rattle.window.specs.declared.dispatch.Controls.{Controls}
use Rattle.window.specs.declared.Window.{Window}
use Rattle.window.specs.declared.dispatch.Rule.{Rule}
use Rattle.window.specs.declared.dispatch.Rule.TheVariants.{EssOn, BothCached, Simple, RegistersFree, NoLateCcr, OneMemory}
use Rattle.std.specs.Prelude.{Some}
use Rattle.window.specs.Dispatch.{is_simple, rules, holds, first_failing, failing, is_passed, passes}

abbrev pub All : {A : Type 0} → (A → Bool) → List A → Type 0
All h [] = Unit {0}
All h (a ∷ l) = (h a ≡ true) × All h l

pub none_fails : (h : Rule → Bool) (l : List Rule) → is_passed (first_failing h l) ≡ true → All h l
unfolding first_failing
none_fails h [] e = tt
none_fails h (a ∷ l) e = go (h a) refl e (none_fails h l)
  where
    go : (b : Bool) → h a ≡ b → is_passed (cond b (first_failing h l) (Some a)) ≡ true → (is_passed (first_failing h l) ≡ true → All h l)
        → (h a ≡ true) × All h l
    go true p q k = (p, k q)
    go false p q k = absurd (true≢false (sym q))

-- a rule of the list is found by its number, wherever it stands
abbrev number : Rule → ℕ
number EssOn = 0
number BothCached = 1
number Simple = 2
number RegistersFree = 3
number NoLateCcr = 4
number OneMemory = 5

abbrev rule_at : ℕ → Rule
rule_at n = cond (eqb n 0) EssOn (cond (eqb n 1) BothCached (cond (eqb n 2) Simple (cond (eqb n 3) RegistersFree (cond (eqb n 4) NoLateCcr OneMemory))))

back : (rule : Rule) → rule_at (number rule) ≡ rule
back EssOn = refl
back BothCached = refl
back Simple = refl
back RegistersFree = refl
back NoLateCcr = refl
back OneMemory = refl

abbrev listed : Rule → List Rule → Bool
listed x [] = false
listed x (y ∷ l) = cond (eqb (number y) (number x)) true (listed x l)

found : (h : Rule → Bool) (x : Rule) (l : List Rule) → listed x l ≡ true → All h l → h x ≡ true
found h x [] q a = absurd (true≢false (sym q))
found h x (y ∷ l) q a = go (eqb (number y) (number x)) refl q (λ p. found h x l p a.1)
  where
    go : (b : Bool) → eqb (number y) (number x) ≡ b → cond b true (listed x l) ≡ true → (listed x l ≡ true → h x ≡ true) → h x ≡ true
    go true e q rest = ap h (sym (back x) ∙ ap rule_at (sym (eqb-true (number y) (number x) e)) ∙ back y) ∙ a.0
    go false e q rest = rest q

all_listed : (rule : Rule) → listed rule rules ≡ true
all_listed EssOn = refl
all_listed BothCached = refl
all_listed Simple = refl
all_listed RegistersFree = refl
all_listed NoLateCcr = refl
all_listed OneMemory = refl

-- what the third rule of the dispatch test leaves
pub record Plain (word : ℕ) : Type 0 where
  pub class0 : class_of word ≡ 0
  pub unindexed : has word EA_INDEXED ≡ false
  pub classified : has word UNCLASSIFIED ≡ false
  pub fixed : has word VARIABLE ≡ false

simple_parts : (word : ℕ) → is_simple word ≡ true → Plain word
unfolding is_simple
simple_parts word e =
    let z = eqb (class_of word) 0 in
    let x = not (has word EA_INDEXED) in
    let u = not (has word UNCLASSIFIED) in
    let v = not (has word VARIABLE) in
    let zxu = and_left (z && x && u) v e in
    let zx = and_left (z && x) u zxu in
    record {
      class0 = eqb-true _ _ (and_left z x zx);
      unindexed = not-true (has word EA_INDEXED) (and_right z x zx);
      classified = not-true (has word UNCLASSIFIED) (and_right (z && x) u zxu);
      fixed = not-true (has word VARIABLE) (and_right (z && x && u) v e);
    }

module _ (i : Instruction) (k : Controls) (w : Window) (e : passes i k w ≡ true) where
  pub passes_each : (rule : Rule) → holds i k w rule ≡ true
  unfolding failing
  passes_each rule = found (holds i k w) rule rules (all_listed rule) (none_fails (holds i k w) rules e)

  pub passes_simple : Plain i.word.0
  unfolding holds
  passes_simple = simple_parts i.word.0 (passes_each Simple)
