-- Document 01, "What the promises must say": "every input determines the result and all lent bytes afterwards, refusals
-- too. Prove that two results allowed by a promise are equal".
--
--   Determined sees promise  ==  whatever two answers the promise allows at one input, the caller sees the same. A
--                                promise says of an input, a result and what was lent, as it is afterwards, whether it
--                                allows them; `sees` is what the caller sees of the last two.
--   result                   ==  of a function that is lent nothing to write: the result
use Rattle.std.specs.Prelude.{◌≡◌}

module _ {ℓ ℓ' ℓ''} {I : Type ℓ} {R O : Type 0} {X : Type ℓ'} where
  abbrev pub Determined : (R → X → O) → (I → R → X → Type ℓ'') → Type (ℓ ⊔ ℓ' ⊔ ℓ'')
  Determined sees promise = (i : I) (r r' : R) (x x' : X) → promise i r x → promise i r' x' → sees r x ≡ sees r' x'

module _ {ℓ} {R : Type 0} {X : Type ℓ} where
  abbrev pub result : R → X → R
  result r x = r
