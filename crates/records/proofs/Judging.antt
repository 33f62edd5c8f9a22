-- The room that a trace which is taken has, record by record.
-- Assumes nothing.
use Prim.Native.Nat.{ℕ, ◌+◌, ◌*◌, ◌≤◌}
use mathlib.Core.List.{[], ◌∷◌}
use native.Mathlib.Omega.{arith}
use Rattle.state.specs.declared.Event.{Event}
use Rattle.records.specs.Trace.{Trace, events, refused, ahead}
use Rattle.records.specs.Judged.{Fits, FitsAnswers}
use Rattle.records.proofs.Counting.{count_cons}
use Rattle.state.specs.Events.{count_of}

pub fits_ahead : (k room : ℕ) (e : Event) (said : Trace) → Fits k room (ahead e said) → Fits (k + count_of (e ∷ [])) room said
fits_ahead k room e (events es) h = omega (arith, count_cons e es)
fits_ahead k room e (refused refusal) h = h

pub fits_room : (k room : ℕ) (said : Trace) → Fits k room said → k * 4 ≤ room
fits_room k room (events es) h = omega arith
fits_room k room (refused refusal) h = absurd h

pub tells_ahead : (k room : ℕ) (e : Event) (said : Trace) → FitsAnswers k room (ahead e said) → FitsAnswers (k + count_of (e ∷ [])) room said
tells_ahead k room e (events es) h = omega (arith, count_cons e es)
tells_ahead k room e (refused refusal) h = h

pub tells_room : (k room : ℕ) (said : Trace) → FitsAnswers k room said → k ≤ room
tells_room k room (events es) h = omega arith
tells_room k room (refused refusal) h = absurd h
