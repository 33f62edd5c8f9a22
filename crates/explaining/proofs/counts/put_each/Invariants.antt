-- `put_each`: so many of the lines stand there, and the others are left.
use Prim.Native.Nat.{◌≤◌}
use mathlib.Core.Path.{◌≡◌}
use lib.ListN.{length, drop}
use Rattle.text.specs.Written.{written, written_of}
use Rattle.rule_text.specs.Each.{each_from}
use Rattle.reasons.specs.Reasons.{reasons}
use Rattle.explaining.specs.Inner.{count_text}
use Rattle.explaining.proofs.counts.put_each.Given as goal

abbrev pub invariant-loop-reason : goal.invariant-loop-reason
invariant-loop-reason l =
    (written l.place l.out ≡ written_of l.initial.out l.start (each_from 0 (length l.yielded) (count_text l.counts)))
    × (length l.yielded ≤ 14)
    × (l.reason-iterator.a.rest.now ≡ drop (length l.yielded) reasons)
    × (l.reason-iterator.b.rest.now ≡ drop (length l.yielded) l.counts)
