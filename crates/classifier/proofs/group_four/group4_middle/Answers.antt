-- `group4_middle`: the tests are those of the rows from the fifth to the ninth, in order.
use mathlib.Core.Path.{sym, ◌∙◌}
use Rattle.bits.specs.Instructions.{tas, mull_divl, swap}
use Rattle.bits.proofs.Patterns.{hit, miss}
use Rattle.classifier.specs.Group4.{group4}
use Rattle.classifier.proofs.group_four.group4_middle.Goals as goal

pub returns-then-is_movem : goal.returns-then-is_movem
unfolding group4
returns-then-is_movem c = rw (sym c.is_movem.ensures ∙ c.if-is_movem.true) c.new.ensures

pub returns-then-op-eq2752 : goal.returns-then-op-eq2752
unfolding group4
returns-then-op-eq2752 c = rw (sym c.is_movem.ensures ∙ c.if-is_movem.false, hit tas c.args.op c.if-op-eq2752.true) c.poep_only.ensures

pub returns-then-op-eq3072 : goal.returns-then-op-eq3072
unfolding group4
returns-then-op-eq3072 c =
    rw (
      sym c.is_movem.ensures ∙ c.if-is_movem.false,
      miss tas c.args.op c.if-op-eq2752.false,
      hit mull_divl c.args.op c.if-op-eq3072.true,
    )
    c.poep_only-then-op-eq3072.ensures

pub returns-then-op-eq2112 : goal.returns-then-op-eq2112
unfolding group4
returns-then-op-eq2112 c =
    rw (
      sym c.is_movem.ensures ∙ c.if-is_movem.false,
      miss tas c.args.op c.if-op-eq2752.false,
      miss mull_divl c.args.op c.if-op-eq3072.false,
      hit swap c.args.op c.if-op-eq2112.true,
    )
    c.alu.ensures

pub returns-then-is_nbcd_or_ext : goal.returns-then-is_nbcd_or_ext
unfolding group4
returns-then-is_nbcd_or_ext c =
    rw (
      sym c.is_movem.ensures ∙ c.if-is_movem.false,
      miss tas c.args.op c.if-op-eq2752.false,
      miss mull_divl c.args.op c.if-op-eq3072.false,
      miss swap c.args.op c.if-op-eq2112.false,
      sym c.is_nbcd_or_ext.ensures ∙ c.if-is_nbcd_or_ext.true,
    )
    c.alu_of.ensures

pub returns : goal.returns
unfolding group4
returns c =
    rw (
      sym c.is_movem.ensures ∙ c.if-is_movem.false,
      miss tas c.args.op c.if-op-eq2752.false,
      miss mull_divl c.args.op c.if-op-eq3072.false,
      miss swap c.args.op c.if-op-eq2112.false,
      sym c.is_nbcd_or_ext.ensures ∙ c.if-is_nbcd_or_ext.false,
    )
    c.group4_rest.ensures
