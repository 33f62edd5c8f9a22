-- A batch over plain values: record after record, the state, the costs and the answers go the way that `costs`,
-- `answers` and `finally` say; and an accepted one has room for each record.
use mathlib.Core.Path.{◌≡◌, refl}
use mathlib.Core.List.{[], ◌∷◌, List}
use Prim.Native.Nat.{ℕ, ◌≤◌}
use mathlib.Core.Bool.{Bool, true, false, cond, ◌||◌}
use lib.Dec.{ltb}
use borrow.Author.Tests.{ltb-false}
use Rattle.std.specs.Prelude.{Err}
use Rattle.cost.specs.Branch.{answer_number}
use Rattle.profile.specs.declared.Profile.{Profile}
use Rattle.state.specs.declared.Oep060Timing.{Oep060Timing}
use Rattle.state.specs.declared.Retirement.{Retirement}
use Rattle.state.specs.Events.{retirements, finally, costs, answers}
use Rattle.state.specs.Timing.{state_of, timing_of, stepped_by}
use Rattle.step.specs.Boards.{board_of, stepped_of}
use Rattle.refusals.specs.declared.Refusal.TheVariants.{Oversized, Room}
use Rattle.refusals.specs.Runs.{Rooms}
use Rattle.refusals.specs.Verdict.{accepted}
use Rattle.batch.specs.Batch.{events_of}
use Rattle.batch.specs.Judge.{batch_verdict_of}

-- the state after the records, the cost of each, and what the cache answered of each
abbrev pub end_of : Profile → Oep060Timing → List Retirement → Oep060Timing
end_of p t rs = timing_of (finally (board_of p) (state_of t) (events_of rs))

abbrev pub paid_of : Profile → Oep060Timing → List Retirement → List ℕ
paid_of p t rs = costs (board_of p) (state_of t) (events_of rs)

abbrev pub told_of : Profile → Oep060Timing → List Retirement → List ℕ
told_of p t rs = answers (board_of p) (state_of t) (events_of rs)

pub end_none : (p : Profile) (t : Oep060Timing) → end_of p t [] ≡ t
unfolding finally
end_none p t = refl

pub paid_none : (p : Profile) (t : Oep060Timing) → paid_of p t [] ≡ []
unfolding retirements
paid_none p t = refl

pub told_none : (p : Profile) (t : Oep060Timing) → told_of p t [] ≡ []
unfolding retirements
told_none p t = refl

module _ (p : Profile) (t : Oep060Timing) (r : Retirement) (rs : List Retirement) where
  pub end_first : end_of p t (r ∷ rs) ≡ end_of p (stepped_of p t r).timing rs
  unfolding finally stepped_by
  end_first = refl

  pub paid_first : paid_of p t (r ∷ rs) ≡ (stepped_of p t r).cost.0 ∷ paid_of p (stepped_of p t r).timing rs
  unfolding retirements stepped_by
  paid_first = refl

  pub told_first : told_of p t (r ∷ rs)
      ≡ answer_number (stepped_of p t r).answer ∷ told_of p (stepped_of p t r).timing rs
  unfolding retirements stepped_by
  told_first = refl

-- an accepted batch has no more records than are allowed, and a place for each in both runs
pub accepted_within : (n : ℕ) (room : Rooms) → batch_verdict_of n room ≡ accepted
    → (n ≤ room.costs) × (n ≤ room.answers) × (n ≤ 1048576)
unfolding batch_verdict_of
accepted_within n room = go (ltb 1048576 n) (ltb room.costs n) (ltb room.answers n) refl refl refl
  where
    go : (p q r : Bool) → ltb 1048576 n ≡ p → ltb room.costs n ≡ q → ltb room.answers n ≡ r
        → cond p (Err Oversized) (cond (q || r) (Err (Room 0)) accepted) ≡ accepted
        → (n ≤ room.costs) × (n ≤ room.answers) × (n ≤ 1048576)
    go false false false e f g h = (ltb-false _ _ f, ltb-false _ _ g, ltb-false _ _ e)
    go true q r e f g h = cc
    go false true r e f g h = cc
    go false false true e f g h = cc
