-- The numbers that a host lends for a state. Document 01, "Where the Rust changes shape": "`Vec` slots become fixed
-- arrays". The Rust: Oep060Timing. The numbers of a window are in WindowNumbers.
--
--   Lent           ==  256 tags, the bytes of 256 slots, and the eight numbers of a window
--   lent ts bs ns  ==  these three
--   state_at l     ==  the state that lent numbers stand for
--   lent_of t      ==  the lent numbers that stand for the state t
use Rattle.std.specs.Prelude.{ℕ, List}
use Rattle.in_place.specs.WindowNumbers.{window_at, numbers_of}
use Rattle.state.specs.declared.Oep060Timing.{Oep060Timing}
use Rattle.state.specs.Timing.{timing_at}

pub record Lent : Type 0 where
  pub tags : List ℕ
  pub state : List ℕ
  pub window : List ℕ

abbrev pub lent : List ℕ → List ℕ → List ℕ → Lent
lent tags state window = record { tags = tags; state = state; window = window }

abbrev pub state_at : Lent → Oep060Timing
state_at l = timing_at l.tags l.state (window_at l.window)

abbrev pub lent_of : Oep060Timing → Lent
lent_of t = lent t.cache.tags t.cache.state (numbers_of t.window)
