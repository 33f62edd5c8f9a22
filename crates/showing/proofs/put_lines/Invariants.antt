-- `put_lines`: the writing as it goes on (`Going`), record by record.
use mathlib.Core.Path.{◌≡◌}
use Rattle.showing.proofs.Going.{Going}
use Rattle.showing.proofs.put_lines.Given as goal

abbrev pub invariant-loop-at : goal.invariant-loop-at
invariant-loop-at l =
    (l.at-iterator.trace.now ≡ l.trace) × Going l.trace l.initial.out l.start l.out l.place l.at-iterator.at
