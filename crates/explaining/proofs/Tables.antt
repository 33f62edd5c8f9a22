-- There are fourteen reasons.
-- Assumes nothing.
use Prim.Native.Nat.{◌<◌}
use native.Mathlib.Omega.{arith}
use Rattle.reasons.specs.declared.reason.Reason.{Reason}
use Rattle.reasons.specs.declared.reason.Reason.TheVariants.{
  Paired,
  WindowShut,
  EssOff,
  NotCached,
  NotSimple,
  Register,
  Ccr,
  Memory,
  Refill,
  Folded,
  Alone,
  NotTaken,
  Mispredicted,
  Static,
}
use Rattle.reasons.specs.Reasons.{reason_number}

pub number_few : (x : Reason) → reason_number x < 14
number_few Paired = omega arith
number_few WindowShut = omega arith
number_few EssOff = omega arith
number_few NotCached = omega arith
number_few NotSimple = omega arith
number_few Register = omega arith
number_few Ccr = omega arith
number_few Memory = omega arith
number_few Refill = omega arith
number_few Folded = omega arith
number_few Alone = omega arith
number_few NotTaken = omega arith
number_few Mispredicted = omega arith
number_few Static = omega arith
