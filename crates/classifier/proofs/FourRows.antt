-- Four rows that answer the same: their answer where one of the four patterns matches, and the later rows where none does.
-- Assumes nothing.
use mathlib.Core.Path.{◌≡◌, refl}
use mathlib.Core.Logic.{◌⊎◌, ⊎_elim, inl, inr}
use mathlib.Core.Bool.{Bool, true, false, cond}
use Prim.Native.Nat.{ℕ}
use lib.Bits.{bit_and}
use Rattle.bits.specs.Pattern.{Pattern, matches, mask_of, value_of}
use Rattle.bits.specs.Rows.{Rows, ◌⇒◌⨾◌, first}
use Rattle.bits.proofs.Patterns.{hit, miss}

either : {A : Type 0} (t : Bool) {x y : A} → y ≡ x → cond t x y ≡ x
either true e = refl
either false e = e

-- the code's match has its numbers in rising order
pub second_first : {A B C : Type 0} → A ⊎ (B ⊎ C) → B ⊎ (A ⊎ C)
second_first = ⊎_elim (λ a. inr (inl a)) (⊎_elim (λ b. inl b) (λ c. inr (inr c)))

module _ {A : Type 0} (p q r s : Pattern) (op : ℕ) (x : A) (rows : Rows A) where
  abbrev is : Pattern → Type 0
  is z = bit_and op (mask_of z) ≡ value_of z

  abbrev four : Rows A
  four = matches p op ⇒ x ⨾ matches q op ⇒ x ⨾ matches r op ⇒ x ⨾ matches s op ⇒ x ⨾ rows

  pub one_of_four : is p ⊎ (is q ⊎ (is r ⊎ is s)) → first four ≡ x
  one_of_four =
      ⊎_elim (λ e. rw (hit p op e))
      (⊎_elim (λ e. either (matches p op) (rw (hit q op e)))
      (⊎_elim (λ e. either (matches p op) (either (matches q op) (rw (hit r op e))))
      (λ e. either (matches p op) (either (matches q op) (either (matches r op) (rw (hit s op e)))))))

  pub none_of_four : (is p ⊎ (is q ⊎ (is r ⊎ is s)) → ⊥) → first four ≡ first rows
  none_of_four h =
      rw (
        miss p op (λ e. h (inl e)),
        miss q op (λ e. h (inr (inl e))),
        miss r op (λ e. h (inr (inr (inl e)))),
        miss s op (λ e. h (inr (inr (inr e)))),
      )
