-- `group8`: the test is that of the first row, and the match that of the next two, which answer the same.
use mathlib.Core.Logic.{⊎_elim}
use native.Mathlib.Omega.{arith}
use Rattle.bits.specs.Instructions.{size11, sbcd_abcd, pack}
use Rattle.bits.proofs.Patterns.{hit, miss}
use Rattle.classifier.specs.HighGroups.{group8, group11}
use Rattle.classifier.proofs.high_groups.group8.Goals as goal

pub returns-then-op-eq192 : goal.returns-then-op-eq192
unfolding group8
returns-then-op-eq192 c = rw (hit size11 c.args.op c.if-op-eq192.true) c.poep_only.ensures

pub returns-in-256 : goal.returns-in-256
unfolding group8
returns-in-256 c =
    let first = miss size11 c.args.op c.if-op-eq192.false in
    ⊎_elim (λ e. rw (first, hit sbcd_abcd c.args.op e) c.poep_only-in-256.ensures)
    (λ e. rw (first, miss sbcd_abcd c.args.op (λ h. omega (arith, e, h)), hit pack c.args.op e) c.poep_only-in-256.ensures)
    c.in-256.is

pub returns-in_default : goal.returns-in_default
unfolding group8 group11
returns-in_default c = rw (miss size11 c.args.op c.if-op-eq192.false, miss sbcd_abcd c.args.op (λ e. grind (arith, e)), miss pack c.args.op (λ e. grind (arith, e))) c.read_or_modified.ensures
