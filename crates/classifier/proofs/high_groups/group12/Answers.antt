-- `group12`: the tests are those of the first two rows, and the match that of the next three, which answer the same.
use mathlib.Core.Logic.{⊎_elim}
use native.Mathlib.Omega.{arith}
use Rattle.bits.specs.Instructions.{size11, sbcd_abcd, exg_data, exg_address, exg_both}
use Rattle.bits.proofs.Patterns.{hit, miss}
use Rattle.classifier.specs.HighGroups.{group12, group11}
use Rattle.classifier.proofs.high_groups.group12.Goals as goal

pub returns-then-op-eq192 : goal.returns-then-op-eq192
unfolding group12
returns-then-op-eq192 c = rw (hit size11 c.args.op c.if-op-eq192.true) c.poep_only.ensures

pub returns-then-op-eq256 : goal.returns-then-op-eq256
unfolding group12
returns-then-op-eq256 c = rw (miss size11 c.args.op c.if-op-eq192.false, hit sbcd_abcd c.args.op c.if-op-eq256.true) c.poep_only-then-op-eq256.ensures

pub returns-in-320 : goal.returns-in-320
unfolding group12
returns-in-320 c =
    let first = miss size11 c.args.op c.if-op-eq192.false in
    let second = miss sbcd_abcd c.args.op c.if-op-eq256.false in
    ⊎_elim (λ e. rw (first, second, hit exg_data c.args.op e) c.poep_only-in-320.ensures)
    (⊎_elim (λ e. rw (first, second, miss exg_data c.args.op (λ h. omega (arith, e, h)), hit exg_address c.args.op e) c.poep_only-in-320.ensures)
    (λ e. rw (first, second, miss exg_data c.args.op (λ h. omega (arith, e, h)), miss exg_address c.args.op (λ h. omega (arith, e, h)), hit exg_both c.args.op e) c.poep_only-in-320.ensures))
    c.in-320.is

pub returns-in_default : goal.returns-in_default
unfolding group12 group11
returns-in_default c =
    rw (
      miss size11 c.args.op c.if-op-eq192.false,
      miss sbcd_abcd c.args.op c.if-op-eq256.false,
      miss exg_data c.args.op (λ e. grind (arith, e)),
      miss exg_address c.args.op (λ e. grind (arith, e)),
      miss exg_both c.args.op (λ e. grind (arith, e)),
    )
    c.read_or_modified.ensures
