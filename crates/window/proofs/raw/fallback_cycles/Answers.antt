-- `fallback_cycles`: the quotient toward zero, and then the law of each sign.
use Rattle.std.proofs.Common.{rules}
use mathlib.Core.Path.{ap}
use mir.Val.{SFits}
use mir.Syntax.{w32}
use mir.ValLaws.{to_z-of_z}
use lib.IntN.{pos}
use lib.Signed.{quot_z}
use Rattle.class_word.specs.Word.{clocks}
use Rattle.window.proofs.RawLaws.{quotient_fits, at_least_one_is}
use Rattle.window.proofs.raw.fallback_cycles.Goals as goal

pub returns : goal.returns
returns c =
    let f : SFits w32 c.args.raw.0 = search rules in
    let g : SFits w32 (quot_z c.args.raw.0 (pos 4)) = quotient_fits _ f in
    let m : SFits w32 c.max.result = search rules in
    rw (to_z-of_z w32 _ m, c.max.ensures.value, to_z-of_z w32 _ f, to_z-of_z w32 _ g) (ap clocks (at_least_one_is c.args.raw.0))
