-- `from`: 1 is the mended profile, any other number the crate's.
use borrow.Author.Tests.{eq-eqb, ne_eqb}
use Rattle.profile.specs.Profile.{profile_at}
use Rattle.profile.proofs.ProfileFromU32.from.Goals as goal

pub returns-then-number-eq1 : goal.returns-then-number-eq1
unfolding profile_at
returns-then-number-eq1 c = simp (eq-eqb _ _ c.if-number-eq1.true)

pub returns-else-number-eq1 : goal.returns-else-number-eq1
unfolding profile_at
returns-else-number-eq1 c = simp (ne_eqb _ _ c.if-number-eq1.false)
