-- Exactly one reason fits each retirement; and where it is a rule's, every earlier rule has passed and this one has failed.
-- Assumes nothing.
use mathlib.Core.Path.{◌≡◌, refl, sym, ap, subst, ◌∙◌}
use mathlib.Core.Logic.{◌↔◌, ◌⊎◌, ⊎_elim, inl, inr}
use mathlib.Core.Bool.{Bool, true, false, not, cond, ◌&&◌, true≢false}
use mathlib.Core.List.{List, [], ◌∷◌}
use Rattle.bits.proofs.Bools.{and_left, and_right}
use Rattle.window.specs.declared.dispatch.Rule.{Rule}
use Rattle.window.specs.declared.dispatch.Rule.TheVariants.{EssOn, BothCached, Simple, RegistersFree, NoLateCcr, OneMemory}
use Rattle.cost.specs.Retiring.{Retiring}
use Rattle.reasons.specs.declared.reason.Reason.{Reason}
use Rattle.reasons.specs.declared.reason.Reason.TheVariants.{Paired, WindowShut, EssOff, NotCached, NotSimple, Register, Ccr, Memory, Refill, Folded, Alone, NotTaken, Mispredicted, Static}
use Rattle.reasons.specs.Reasons.{reasons, of_rule, reason_of}
use Rattle.reasons.specs.Fits.{passed, all_pass, earlier, joinable, fails_first, fits}
use Rattle.reasons.proofs.Fitting.{keep, by_parts, read, one_kept}

-- a reason is on a list
abbrev On : Reason → List Reason → Type 0
On x [] = ⊥
On x (y ∷ l) = (x ≡ y) ⊎ On x l

all_on : (x : Reason) → On x reasons
all_on Paired = inl refl
all_on WindowShut = inr (inl refl)
all_on EssOff = inr (inr (inl refl))
all_on NotCached = inr (inr (inr (inl refl)))
all_on NotSimple = inr (inr (inr (inr (inl refl))))
all_on Register = inr (inr (inr (inr (inr (inl refl)))))
all_on Ccr = inr (inr (inr (inr (inr (inr (inl refl))))))
all_on Memory = inr (inr (inr (inr (inr (inr (inr (inl refl)))))))
all_on Refill = inr (inr (inr (inr (inr (inr (inr (inr (inl refl))))))))
all_on Folded = inr (inr (inr (inr (inr (inr (inr (inr (inr (inl refl)))))))))
all_on Alone = inr (inr (inr (inr (inr (inr (inr (inr (inr (inr (inl refl))))))))))
all_on NotTaken = inr (inr (inr (inr (inr (inr (inr (inr (inr (inr (inr (inl refl)))))))))))
all_on Mispredicted = inr (inr (inr (inr (inr (inr (inr (inr (inr (inr (inr (inr (inl refl))))))))))))
all_on Static = inr (inr (inr (inr (inr (inr (inr (inr (inr (inr (inr (inr (inr (inl refl)))))))))))))

module _ (f : Reason → Bool) where
  -- what is kept fits, and what fits is kept
  kept_fits : (x : Reason) (l : List Reason) → On x (keep f l) → f x ≡ true
  kept_fits x [] h = absurd h
  kept_fits x (y ∷ l) h = go (kept_fits x l) (f y) refl h
    where
      go : (On x (keep f l) → f x ≡ true) → (b : Bool) → f y ≡ b → On x (cond b (y ∷ keep f l) (keep f l)) → f x ≡ true
      go rest true q = ⊎_elim (λ e. ap f e ∙ q) rest
      go rest false q = rest

  fits_kept : (x : Reason) (l : List Reason) → f x ≡ true → On x l → On x (keep f l)
  fits_kept x [] h n = n
  fits_kept x (y ∷ l) h n = go (fits_kept x l h) (f y) refl n
    where
      go : (On x l → On x (keep f l)) → (b : Bool) → f y ≡ b → On x (y ∷ l) → On x (cond b (y ∷ keep f l) (keep f l))
      go rest true q = ⊎_elim (λ e. inl e) (λ n. inr (rest n))
      go rest false q = ⊎_elim (λ e. absurd (true≢false (sym h ∙ ap f e ∙ q))) rest

not_false : (b : Bool) → not b ≡ true → b ≡ false
not_false true h = sym h
not_false false h = refl

module _ (r : Retiring) where
  pub exactly_one_lem : (x : Reason) → (fits r x ≡ true) ↔ (reason_of r ≡ x)
  exactly_one_lem x = (
    λ h. sym (⊎_elim (λ e. e) (λ n. absurd n) (subst (On x) (one_kept r) (fits_kept (by_parts r) x reasons (sym (read r x) ∙ h) (all_on x)))),
    λ e. read r x ∙ kept_fits (by_parts r) x reasons (subst (On x) (sym (one_kept r)) (inl (sym e))),
  )

  rule_fails : (rule : Rule) → fits r (of_rule rule) ≡ fails_first r rule
  unfolding fits
  rule_fails EssOn = refl
  rule_fails BothCached = refl
  rule_fails Simple = refl
  rule_fails RegistersFree = refl
  rule_fails NoLateCcr = refl
  rule_fails OneMemory = refl

  pub earlier_passed_lem : (rule : Rule) → reason_of r ≡ of_rule rule → (all_pass r (earlier rule) ≡ true) × (passed r rule ≡ false)
  earlier_passed_lem rule e =
      let all = all_pass r (earlier rule) in
      let fails = not (passed r rule) in
      let h = sym (rule_fails rule) ∙ (exactly_one_lem (of_rule rule)).1 e in
      (and_right (joinable r) all (and_left (joinable r && all) fails h), not_false (passed r rule) (and_right (joinable r && all) fails h))
