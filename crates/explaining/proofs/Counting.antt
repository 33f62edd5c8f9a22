-- Counting the reasons: one more of a reason, and the lines of counts that are those of the retirements.
-- Assumes nothing.
use Prim.Native.Nat.{ℕ, zero, suc, ◌+◌, ◌≤◌, ◌<◌}
use mathlib.Core.Path.{◌≡◌, refl, sym, ap, ap₂, ◌∙◌}
use mathlib.Core.Bool.{Bool, true, false}
use mathlib.Core.List.{List, [], ◌∷◌, ◌++◌}
use native.Mathlib.Nat.{add-zero}
use native.Mathlib.Omega.{arith}
use lib.Dec.{eqb}
use lib.ListN.{length, get_or, set, replicate, drop}
use Rattle.std.proofs.lemmas.List.{length-drop, get_or-drop, drop-drop}
use lib.Seq.{get_or-set_same, get_or-set_other}
use borrow.Author.Tests.{eqb-true, eqb-false}
use Rattle.bits.specs.Words.{num}
use Rattle.cost.specs.Retiring.{Retiring}
use Rattle.rule_text.specs.Each.{each_from}
use Rattle.reasons.specs.declared.reason.Reason.{Reason}
use Rattle.reasons.specs.declared.reason.Reason.TheVariants.{Static}
use Rattle.reasons.specs.Reasons.{reason_number, reasons, reason_of}
use Rattle.explaining.specs.WhyLines.{counted, count_line, counts_for}
use Rattle.explaining.specs.Inner.{count_text}

pub num_most : (b : Bool) → num b ≤ 1
num_most true = omega arith
num_most false = omega arith

-- one more at one place
abbrev pub one_more : List ℕ → ℕ → List ℕ
one_more ns j = set ns j (get_or ns j 0 + 1)

pub one_more_lem : (ns : List ℕ) (j k : ℕ) → j < length ns → get_or (one_more ns j) k 0 ≡ get_or ns k 0 + num (eqb j k)
one_more_lem ns j k h = go (eqb j k) refl
  where
    go : (b : Bool) → eqb j k ≡ b → get_or (one_more ns j) k 0 ≡ get_or ns k 0 + num b
    go true q = let e : j ≡ k = eqb-true j k q in rw (← e) (get_or-set_same ns j (get_or ns j 0 + 1) 0 h)
    go false q = get_or-set_other ns j k (get_or ns j 0 + 1) 0 (λ e. eqb-false j k q (sym e)) ∙ sym (add-zero (get_or ns k 0))

-- at the start there is none
pub none_yet : (n : ℕ) → ◌≡◌ {A = ℕ} (get_or (replicate 14 0) n 0) 0
none_yet n = zeros 14 n
  where
    zeros : (m n : ℕ) → ◌≡◌ {A = ℕ} (get_or (replicate m 0) n 0) 0
    zeros zero n = refl
    zeros (suc m) zero = refl
    zeros (suc m) (suc n) = zeros m n

pub counted_most : (n : ℕ) (rs : List Retiring) → counted n rs ≤ length rs
counted_most n [] = omega arith
counted_most n (r ∷ rs) = omega (arith, num_most (eqb (reason_number (reason_of r)) n), counted_most n rs)

alike : (f g : ℕ → List ℕ) → ((n : ℕ) → f n ≡ g n) → (k n : ℕ) → each_from k n f ≡ each_from k n g
unfolding each_from
alike f g h k zero = refl
alike f g h k (suc n) = ap₂ (λ (x y : List ℕ). x ++ y) (h k) (alike f g h (suc k) n)

abbrev line_at : List Retiring → ℕ → List ℕ
line_at rs n = count_line (get_or reasons n Static) (counted n rs)

line_so : (ns : List ℕ) (rs : List Retiring) (n : ℕ) → get_or ns n 0 ≡ counted n rs → count_text ns n ≡ line_at rs n
unfolding count_text
line_so ns rs n e = ap (count_line (get_or reasons n Static)) e

in_order : (rs : List Retiring) → each_from 0 14 (line_at rs) ≡ counts_for reasons rs
unfolding each_from
in_order rs = refl

-- the lines of counts that are those of the retirements
pub counts_so : (ns : List ℕ) (rs : List Retiring) → ((n : ℕ) → get_or ns n 0 ≡ counted n rs) → each_from 0 14 (count_text ns) ≡ counts_for reasons rs
counts_so ns rs h = alike (count_text ns) (line_at rs) (λ n. line_so ns rs n (h n)) 0 14 ∙ in_order rs

-- what comes next in what is left of a list stands at that place of it
module _ {X : Type 0} (xs : List X) (k : ℕ) {x : X} {rest : List X} (e : drop k xs ≡ x ∷ rest) where
  pub next_within : k < length xs
  next_within = omega (arith, ap length e, length-drop k xs)

  pub next_is : (d : X) → get_or xs k d ≡ x
  next_is d = let z : k + 0 ≡ k = omega arith in sym (rw z at (get_or-drop k xs 0 d)) ∙ ap (λ l. get_or l 0 d) e

  pub next_rest : rest ≡ drop (k + 1) xs
  next_rest = sym (ap (λ l. drop 1 l) e) ∙ drop-drop 1 k xs

pub next_line : (ns : List ℕ) (k : ℕ) {x : Reason} {n : ℕ} {xs : List Reason} {ms : List ℕ}
    → drop k reasons ≡ x ∷ xs → drop k ns ≡ n ∷ ms → count_text ns k ≡ count_line x n
unfolding count_text
next_line ns k e f = rw (next_is reasons k e Static, next_is ns k f 0)
