-- A profile's number is read as that profile.
-- Assumes nothing.
use mathlib.Core.Path.{◌≡◌, refl}
use Rattle.profile.specs.declared.Profile.{Profile}
use Rattle.profile.specs.declared.Profile.TheVariants.{Crate, Mended}
use Rattle.profile.specs.Profile.{profile_at, number_of}

pub profile_held : (p : Profile) → profile_at (number_of p) ≡ p
unfolding profile_at
profile_held Crate = refl
profile_held Mended = refl
