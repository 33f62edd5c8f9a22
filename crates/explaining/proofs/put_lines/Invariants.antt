-- `put_lines`: the writing as it goes on (`Going`), record by record.
use mathlib.Core.Path.{◌≡◌}
use Rattle.in_place.specs.Lent.{lent, state_at}
use Rattle.explaining.proofs.Going.{Going}
use Rattle.explaining.proofs.put_lines.Given as goal

abbrev pub invariant-loop-event : goal.invariant-loop-event
invariant-loop-event l =
    (l.event-iterator.trace.now ≡ l.trace)
    × Going l.full l.profile l.trace l.initial.out l.start
    (state_at (lent l.initial.tags l.initial.state l.initial.window)) l.out l.place l.event-iterator.at l.index l.total l.counts
    (state_at (lent l.tags l.state l.window))
