-- A break on the lent window of a state is the event `Broken`: the window is shut, and nothing else is touched. And what the methods of the
-- state promise of a break and the two clears is what the events do. By computation.
-- Assumes nothing.
use mathlib.Core.Path.{◌≡◌, refl}
use Rattle.window.specs.Windows.{shut}
use Rattle.profile.specs.declared.Profile.{Profile}
use Rattle.state.specs.declared.Oep060Timing.{Oep060Timing}
use Rattle.state.specs.declared.Event.TheVariants.{Broken, ClearedAll, ClearedUser}
use Rattle.state.specs.Timing.{broken_of, cleared_of, user_cleared_of}
use Rattle.step.specs.Boards.{after_of}

module _ (P : Profile) (t : Oep060Timing) where
  pub break_is_the_event : after_of P t Broken ≡ record { cache = t.cache; window = shut }
  break_is_the_event = refl

  pub broken_is_the_event : after_of P t Broken ≡ broken_of t
  broken_is_the_event = refl

  pub cleared_is_the_event : after_of P t ClearedAll ≡ cleared_of t
  cleared_is_the_event = refl

  pub user_cleared_is_the_event : after_of P t ClearedUser ≡ user_cleared_of t
  user_cleared_is_the_event = refl
