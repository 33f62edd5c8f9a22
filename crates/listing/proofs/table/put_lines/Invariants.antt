-- `put_lines`: the writing as it goes on (`Going`), record by record; the record that would be refused cannot come.
use mathlib.Core.Path.{◌≡◌}
use Rattle.listing.proofs.TableLines.{Going}
use Rattle.listing.proofs.table.put_lines.Given as goal

abbrev pub invariant-loop-event : goal.invariant-loop-event
invariant-loop-event l =
    (l.event-iterator.trace.now ≡ l.trace)
    × Going l.trace l.costs l.initial.out l.start l.out l.place l.event-iterator.at l.index
