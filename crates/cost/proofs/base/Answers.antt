-- `base`: the base before the clock of an indexed operand stays far below 2^32.
use Rattle.std.proofs.Common.{ap, arith, w32, FitsSigned, rules}
use Rattle.class_word.specs.declared.Clocks.{Clocks}
use Rattle.cost.proofs.Largest.{plain_most}
use Rattle.cost.proofs.base.Goals as goal

pub overflow_add-result : goal.overflow_add-result
overflow_add-result c =
    let f : FitsSigned w32 c.args.k.raw.0 = search rules in
    omega (arith, ap (λ (r : Clocks). r.0) c.plain-cycles.ensures, plain_most c.args.i.word.0 _ f)
