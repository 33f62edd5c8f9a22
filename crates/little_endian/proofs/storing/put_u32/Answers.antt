-- `put_u32`: the bytes that are stored are the number's, the lowest first.
use mathlib.Core.Path.{◌≡◌, refl, ◌∙◌}
use Prim.Native.Nat.{ℕ, ◌/◌}
use native.Mathlib.Omega.{arith}
use Rattle.std.specs.Int.{w32, to_le_bytes}
use Rattle.little_endian.specs.Numbers.{bytes_of}
use Rattle.little_endian.proofs.Numbers.{copy_puts}
use Rattle.little_endian.proofs.storing.put_u32.Goals as goal

-- a byte higher up is found by one division, or by one for each byte below it
bytes_are : (n : ℕ) → to_le_bytes w32 n ≡ bytes_of 4 n
unfolding bytes_of
bytes_are n =
    let two : n / 65536 ≡ n / 256 / 256 = omega arith in
    let three : n / 16777216 ≡ n / 256 / 256 / 256 = omega arith in
    rw (two, three)

pub returns : goal.returns
unfolding bytes_of
returns c =
    copy_puts c.args.s.now c.args.at 4 (bytes_of 4 c.args.n) _ (c.copy_from_slice.ensures.after ∙ c.to_le_bytes.ensures ∙ bytes_are c.args.n) refl
