-- `i32_of`: the cast is the definition's two cases.
use mathlib.Core.Path.{◌≡◌}
use Prim.Native.Nat.{ℕ, ◌^◌, ◌<◌}
use mir.Syntax.{w32}
use mir.Val.{to_z}
use mir.Facts.{of_z-to_z}
use native.Mathlib.Omega.{arith}
use Rattle.std.proofs.lemmas.Int.{ints}
use Rattle.little_endian.specs.Signed.{signed_of}
use Rattle.little_endian.proofs.signed.i32_of.Goals as goal

cast_is : (x : ℕ) → x < 2 ^ 32 → to_z w32 x ≡ signed_of x
unfolding signed_of
cast_is x h = grind (arith, ints)

pub returns : goal.returns
returns c = rw (c.cast_signed.ensures, of_z-to_z c.ranges.x) (cast_is c.args.x c.ranges.x.fits)
