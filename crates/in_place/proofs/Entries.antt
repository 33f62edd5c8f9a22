-- The table of decoded opcodes: a table of zeros is known; and the number that the step is asked by.
-- Assumes nothing.
use mathlib.Core.Path.{◌≡◌, refl}
use mathlib.Core.Bool.{true, false}
use Prim.Native.Nat.{ℕ, zero, suc, ◌+◌, ◌%◌, ◌<◌}
use native.Mathlib.Omega.{arith}
use lib.ListN.{get_or, replicate}
use Rattle.bits.specs.Words.{meets}
use Rattle.profile.specs.declared.Profile.{Profile}
use Rattle.profile.specs.declared.Profile.TheVariants.{Crate, Mended}
use Rattle.profile.specs.Profile.{profile_at, number_of}
use Rattle.in_place.specs.Decoded.{Known}

module _ (p : Profile) where
  zeros : (n m : ℕ) → ◌≡◌ {A = ℕ} (get_or (replicate n 0) m 0) 0
  zeros zero m = refl
  zeros (suc n) zero = refl
  zeros (suc n) (suc m) = zeros n m

  pub known_none : (n : ℕ) → Known p (replicate n 0)
  known_none n m z = absurd (z (zeros n m))

-- the number that the step is asked by: a profile's, or that and 2
pub asked_retire : (p : Profile) → (meets (number_of p) 2 ≡ false) × (profile_at (number_of p % 2) ≡ p)
unfolding profile_at
asked_retire Crate = (refl, refl)
asked_retire Mended = (refl, refl)

pub asked_entry : (p : Profile) → (meets (number_of p + 2) 2 ≡ true) × (profile_at ((number_of p + 2) % 2) ≡ p)
unfolding profile_at
asked_entry Crate = (refl, refl)
asked_entry Mended = (refl, refl)

pub number_small : (p : Profile) → number_of p < 2
number_small Crate = omega arith
number_small Mended = omega arith
