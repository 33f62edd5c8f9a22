-- `run_records`: the run as it goes on (`Going`), turn by turn, from the window as it is read. The measure is what is left.
use mathlib.Core.Path.{◌≡◌}
use Prim.Native.Nat.{◌-◌}
use lib.ListN.{length}
use Rattle.in_place.specs.Lent.{lent, state_at}
use Rattle.refusals.specs.Runs.{runs}
use Rattle.trace.proofs.Going.{Going}
use Rattle.trace.proofs.run_records.Given as goal

abbrev pub invariant-loop-at : goal.invariant-loop-at
invariant-loop-at l = record {
  same : l.decoded.profile ≡ l.fn.profile;
  going : Going l.fn.profile l.trace (runs l.initial.costs l.initial.answers)
      (state_at (lent l.initial.tags l.initial.state l.initial.window)) (runs l.costs l.answers) l.at l.count l.total
      (state_at (lent l.tags l.state l.window));
}

abbrev pub decreases-loop-at : goal.decreases-loop-at
decreases-loop-at l = length l.trace - l.at
