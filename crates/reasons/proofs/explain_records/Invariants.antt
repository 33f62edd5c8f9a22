-- `explain_records`: the run as it goes on, and its reasons (`Both`), event by event, from the window as it is read.
use mathlib.Core.Path.{◌≡◌}
use Rattle.in_place.specs.Lent.{lent, state_at}
use Rattle.refusals.specs.Runs.{runs}
use Rattle.reasons.proofs.Turns.{Both}
use Rattle.reasons.proofs.explain_records.Given as goal

abbrev pub invariant-loop-event : goal.invariant-loop-event
invariant-loop-event l =
    (l.event-iterator.trace.now ≡ l.trace)
    × Both l.profile l.trace (runs l.initial.costs l.initial.answers) l.initial.reasons
    (state_at (lent l.initial.tags l.initial.state l.initial.window)) (runs l.costs l.answers) l.reasons l.event-iterator.at
    l.count l.total (state_at (lent l.tags l.state l.window))
