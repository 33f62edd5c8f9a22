-- The retirements of a trace from a place on: the next of them, and how many there are.
-- Assumes nothing.
use Prim.Native.Nat.{ℕ, ◌≤◌}
use mathlib.Core.Path.{◌≡◌, refl, sym, ◌∙◌}
use mathlib.Core.List.{List, [], ◌∷◌}
use native.Mathlib.Omega.{arith}
use lib.ListN.{length, length-map}
use Rattle.cost.specs.Retiring.{Retiring}
use Rattle.cost.specs.Cost.{cost_of}
use Rattle.profile.specs.declared.Profile.{Profile}
use Rattle.state.specs.declared.Retirement.{Retirement}
use Rattle.state.specs.declared.Event.{Event}
use Rattle.state.specs.declared.Event.TheVariants.{Retired, Broken, ClearedAll, ClearedUser}
use Rattle.state.specs.declared.Oep060Timing.{Oep060Timing}
use Rattle.state.specs.Events.{retiring_of, retirements, count_of}
use Rattle.state.specs.Timing.{state_of}
use Rattle.step.specs.Boards.{board_of, after_of}
use Rattle.records.specs.Trace.{Trace, events, refused, ahead, read_from}
use Rattle.records.specs.Judged.{FitsAnswers}
use Rattle.trace.proofs.Parts.{each_count}
use Rattle.explaining.specs.Inner.{met_by}

-- no trace that is explained has more retirements than these
abbrev pub Few : ℕ → Trace → Type 0
Few k said = FitsAnswers k 3276 said

-- the retirement that comes next, and those behind it
pub met : (p : Profile) (t : Oep060Timing) (k : ℕ) (r : Retirement) (said : Trace) → Few k (ahead (Retired r) said)
    → met_by p t (ahead (Retired r) said) ≡ retiring_of (board_of p) (state_of t) r ∷ met_by p (after_of p t (Retired r)) said
unfolding retirements
met p t k r (events es) f = refl
met p t k r (refused refusal) f = absurd f

pub quiet : (p : Profile) (t : Oep060Timing) (e : Event) (said : Trace) → count_of (e ∷ []) ≡ 0 → met_by p t (ahead e said) ≡ met_by p (after_of p t e) said
unfolding retirements
quiet p t (Retired r) (events es) z = absurd (omega arith)
quiet p t Broken (events es) z = refl
quiet p t ClearedAll (events es) z = refl
quiet p t ClearedUser (events es) z = refl
quiet p t e (refused refusal) z = refl

-- the retirements of a trace from a place on
abbrev pub rest : Profile → List ℕ → ℕ → Oep060Timing → List Retiring
rest p trace at t = met_by p t (read_from trace at)

pub met_count : (p : Profile) (t : Oep060Timing) (es : List Event) → length (met_by p t (events es)) ≡ count_of es
met_count p t es = sym (length-map (met_by p t (events es)) cost_of) ∙ each_count (board_of p) cost_of (state_of t) es

pub met_few : (p : Profile) (t : Oep060Timing) (said : Trace) → Few 0 said → length (met_by p t said) ≤ 3276
met_few p t (events es) f = omega (arith, met_count p t es)
met_few p t (refused refusal) f = absurd f
