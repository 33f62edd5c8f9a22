-- `put_signed`: the sign and the digits behind it; digits alone need no word.
use mathlib.Core.Path.{◌≡◌}
use lib.IntN.{nat_abs}
use mir.Syntax.{w32}
use mir.ValLaws.{to_z-of_z}
use borrow.Author.Rules.{rules}
use mir.Val.{SFits}
use Rattle.text.specs.Decimal.{decimal_of}
use Rattle.text.proofs.Writing.{wrote_none, wrote_one, wrote_more, wrote_whole}
use Rattle.text.proofs.Signs.{signed_below}
use Rattle.text.proofs.put_signed.Goals as goal

pub returns-then-n-lt0 : goal.returns-then-n-lt0
returns-then-n-lt0 c =
    let a = c.args in
    let f : SFits w32 a.n = search rules in
    let sign = wrote_one (wrote_none a.out.now a.at) 45 (search rules) in
    let size : c.unsigned_abs-size.result ≡ nat_abs a.n =
    rw (to_z-of_z w32 a.n f) at c.unsigned_abs-size.ensures.value in
    rw (signed_below a.n (rw (to_z-of_z w32 a.n f) at c.if-n-lt0.true), ← size)
    (wrote_whole (wrote_more sign (decimal_of c.unsigned_abs-size.result) (search rules) c.put_decimal.ensures))
