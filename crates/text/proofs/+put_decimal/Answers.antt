-- `put_decimal`: one digit; or those of a tenth, and the last behind them.
use Prim.Native.Nat.{ℕ, ◌+◌, ◌/◌, ◌%◌, ◌<◌, ◌≤◌}
use mathlib.Core.Path.{◌≡◌, ap, ◌∙◌}
use mathlib.Core.List.{List, [], ◌∷◌}
use native.Mathlib.Omega.{arith}
use lib.ListN.{length, length-append}
use Rattle.text.specs.Decimal.{digit, decimal_of}
use Rattle.text.specs.Written.{written, written_of}
use Rattle.text.proofs.Digits.{decimal_small, decimal_large}
use Rattle.text.proofs.Writing.{Wrote, wrote, wrote_none, wrote_one, wrote_whole}
use Rattle.text.proofs.+put_decimal.Goals as goal

-- the number of digits
one : (n : ℕ) → n < 10 → length (decimal_of n) ≡ 1
one n h = ap length (decimal_small n h)

more : (n : ℕ) → 10 ≤ n → length (decimal_of n) ≡ length (decimal_of (n / 10)) + 1
more n h = ap length (decimal_large n h) ∙ length-append (decimal_of (n / 10)) (digit (n % 10) ∷ [])

-- what the call of itself wrote
module _ (lent : List ℕ) (at n : ℕ) (room : at + length (decimal_of n) ≤ length lent) (large : 10 ≤ n)
    {next : ℕ} {after : List ℕ} (e : written next after ≡ written_of lent at (decimal_of (n / 10))) where
  tenth : Wrote lent at (decimal_of (n / 10)) next after
  tenth = wrote lent at (decimal_of (n / 10)) (omega (arith, room, more n large)) e

  place_behind : next < length lent
  place_behind = omega (arith, room, more n large, tenth.place)

  room_behind : next < length after
  room_behind = omega (arith, place_behind, tenth.same)

pub bounds-out-at : goal.bounds-out-at
bounds-out-at t c = omega (arith, c.requires, one c.args.n c.if-n-lt10.true)

pub returns-then-n-lt10 : goal.returns-then-n-lt10
returns-then-n-lt10 t c =
    let a = c.args in
    let h = one a.n c.if-n-lt10.true in
    rw (decimal_small a.n c.if-n-lt10.true)
    (wrote_whole (wrote_one (wrote_none a.out.now a.at) (48 + a.n) (omega (arith, c.requires, h))))

pub put_decimal-next-requires : goal.put_decimal-next-requires
put_decimal-next-requires t c =
    (omega (arith, c.decreases), omega (arith, c.requires, more c.args.n c.if-n-lt10.false))

pub bounds-out-next : goal.bounds-out-next
bounds-out-next t c =
    room_behind c.args.out.now c.args.at c.args.n c.requires c.if-n-lt10.false c.put_decimal-next.ensures

pub overflow_add-result-2 : goal.overflow_add-result-2
overflow_add-result-2 t c =
    let h = place_behind c.args.out.now c.args.at c.args.n c.requires c.if-n-lt10.false c.put_decimal-next.ensures in
    omega (arith, h, c.well_formed)

pub returns : goal.returns
returns t c =
    let a = c.args in
    let e = c.put_decimal-next.ensures in
    let w = tenth a.out.now a.at a.n c.requires c.if-n-lt10.false e in
    let h = place_behind a.out.now a.at a.n c.requires c.if-n-lt10.false e in
    rw (decimal_large a.n c.if-n-lt10.false) (wrote_whole (wrote_one w (digit (a.n % 10)) h))
