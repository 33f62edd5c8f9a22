-- `check_all`: what is counted, with what is left of the trace, is what the whole trace counts. The measure is what is
-- left.
use Prim.Native.Nat.{◌≤◌, ◌-◌}
use mathlib.Core.Path.{◌≡◌}
use lib.ListN.{length}
use Rattle.records.specs.Trace.{read_from, checked_of}
use Rattle.records.proofs.Counting.{counted_from}
use Rattle.records.proofs.check_all.Given as goal

abbrev pub invariant-loop-count : goal.invariant-loop-count
invariant-loop-count l =
    (l.at ≤ length l.trace) × (l.count ≤ l.at)
    × (counted_from l.count (read_from l.trace l.at) ≡ checked_of (read_from l.trace 0))

abbrev pub decreases-loop-count : goal.decreases-loop-count
decreases-loop-count l = length l.trace - l.at
