-- The tender's demand 3, over any board: "Reason: time must move."
--
--   Sound B     ==  what demand 3 needs of a board: every class word has at least 1 clock, exactly 1 in class 0, and no
--                   BRANCH word is in class 0
--   is_taken p  ==  the cache predicts taken
--   joins s r   ==  "keeps the flow and passes the dispatch test"
--   folds s r   ==  "is a cached, correctly predicted taken branch with the branch cache on"
--   Demand3 B   ==  the demand, sentence by sentence
--
-- A sequence of events is any list of retirements, breaks and clears, from any state: "in any sequence with no state
-- loaded between".
use Rattle.std.specs.Prelude.{ℕ, ◌+◌, ◌/◌, ◌≤◌, ◌≡◌, ◌↔◌, Bool, true, false, not, ◌&&◌, ◌||◌}
use Rattle.std.specs.Prelude.{List, Option, Some, None, length}
use Rattle.class_word.specs.Word.{has, BRANCH}
use Rattle.cost.specs.Branch.{taken_of}
use Rattle.window.specs.Windows.{shut}
use Rattle.window.specs.Dispatch.{passes}
use Rattle.cost.specs.Cost.{cost_of}
use Rattle.cost.specs.Free.{sound}
use Rattle.state.specs.declared.Retirement.{Retirement}
use Rattle.state.specs.declared.Event.{Event}
use Rattle.state.specs.declared.Event.TheVariants.{Retired}
use Rattle.state.specs.Board.{Board}
use Rattle.state.specs.Events.{State, retiring_of, after, retirements, costs, total}

abbrev pub Sound : Board → Type 0
Sound B = (op : ℕ) → sound (B.profile op).word.0 ≡ true

abbrev pub is_taken : Option Bool → Bool
is_taken None = false
is_taken (Some taken) = taken

module _ (B : Board) where
  abbrev pub joins : State B.rule → Retirement → Bool
  joins s r = not r.controls.flowed && passes (B.profile r.op) r.controls s.window

  abbrev pub folds : State B.rule → Retirement → Bool
  folds s r =
      has (B.profile r.op).word.0 BRANCH
      && r.controls.cached
      && r.controls.ebc
      && is_taken (B.rule.predict s.cache r.controls.ppc)
      && taken_of (B.profile r.op) r.controls

  pub record Demand3 : Type 0 where
    -- "a retirement costs 0 exactly when the window was open and it either .. or .."
    pub zero_exactly : (s : State B.rule) (r : Retirement)
        → (cost_of (retiring_of B s r) ≡ 0) ↔ ((s.window.opened && (joins s r || folds s r)) ≡ true)
    -- "The window is then shut."
    pub then_shut : (s : State B.rule) (r : Retirement)
        → cost_of (retiring_of B s r) ≡ 0 → (after B s (Retired r)).window ≡ shut
    -- "So n retirements cost at least n/2 rounded down,"
    pub at_least : (s : State B.rule) (es : List Event) → length (retirements B s es) / 2 ≤ total (costs B s es)
    -- "or rounded up if the window began shut,"
    pub at_least_shut : (s : State B.rule) (es : List Event) → s.window.opened ≡ false
        → (length (retirements B s es) + 1) / 2 ≤ total (costs B s es)
    -- "and for every n some start and sequence reach each bound."
    pub reached : (n : ℕ) → (s : State B.rule) × (es : List Event)
        × (length (retirements B s es) ≡ n) × (total (costs B s es) ≡ n / 2)
    pub reached_shut : (n : ℕ) → (s : State B.rule) × (es : List Event) × (s.window.opened ≡ false)
        × (length (retirements B s es) ≡ n) × (total (costs B s es) ≡ (n + 1) / 2)
