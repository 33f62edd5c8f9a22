-- `crate_060`: each arm is the row of its groups, of the class words and of the masks.
use mathlib.Core.Logic.{⊎_elim}
use native.Mathlib.Omega.{arith}
use Rattle.bits.specs.Fields.{group_of}
use Rattle.classifier.specs.Classify.{classify_of}
use Rattle.classifier.proofs.Groups as words
use Rattle.masks.specs.Masks.{sets_of}
use Rattle.masks.proofs.MasksGroups as masks
use Rattle.profile.proofs.Joining.{both, group_none}
use Rattle.profile.proofs.crate_060.Goals as goal

pub returns-in-0 : goal.returns-in-0
unfolding classify_of sets_of
returns-in-0 c = both c.args.op c.joined.ensures (words.group_is c.args.op c.in-0.is c.group0.ensures) (masks.group_is c.args.op (group_of c.args.op) 0 c.in-0.is c.full.ensures)

pub returns-in-4 : goal.returns-in-4
unfolding classify_of sets_of
returns-in-4 c = both c.args.op c.joined-in-4.ensures (words.group_is c.args.op c.in-4.is c.group4.ensures) (masks.group_is c.args.op (group_of c.args.op) 4 c.in-4.is c.group4_masks.ensures)

pub returns-in-5 : goal.returns-in-5
unfolding classify_of sets_of
returns-in-5 c = both c.args.op c.joined-in-5.ensures (words.group_is c.args.op c.in-5.is c.group5.ensures) (masks.group_is c.args.op (group_of c.args.op) 5 c.in-5.is c.quick_masks.ensures)

pub returns-in-6 : goal.returns-in-6
unfolding classify_of sets_of
returns-in-6 c = both c.args.op c.joined-in-6.ensures (words.group_is c.args.op c.in-6.is c.group6.ensures) (masks.group_is c.args.op (group_of c.args.op) 6 c.in-6.is c.full-in-6.ensures)

pub returns-in-7 : goal.returns-in-7
unfolding classify_of sets_of
returns-in-7 c = both c.args.op c.joined-in-7.ensures (words.group_is c.args.op c.in-7.is c.group7.ensures) (masks.group_is c.args.op (group_of c.args.op) 7 c.in-7.is c.moveq_masks.ensures)

pub returns-in-8 : goal.returns-in-8
unfolding classify_of sets_of
returns-in-8 c = both c.args.op c.joined-in-8.ensures (words.group_is c.args.op c.in-8.is c.group8.ensures) (masks.group_is c.args.op (group_of c.args.op) 8 c.in-8.is c.dyadic_masks.ensures)

pub returns-in-9 : goal.returns-in-9
unfolding classify_of sets_of
returns-in-9 c =
    ⊎_elim
    (λ g. both c.args.op c.joined-in-9.ensures (words.group_is c.args.op g c.add_sub.ensures) (masks.group_is c.args.op (group_of c.args.op) 9 g c.dyadic_masks-in-9.ensures))
    (λ g. both c.args.op c.joined-in-9.ensures (words.group_is c.args.op g c.add_sub.ensures) (masks.group_is c.args.op (group_of c.args.op) 13 g c.dyadic_masks-in-9.ensures))
    c.in-9.is

pub returns-in-11 : goal.returns-in-11
unfolding classify_of sets_of
returns-in-11 c = both c.args.op c.joined-in-11.ensures (words.group_is c.args.op c.in-11.is c.group11.ensures) (masks.group_is c.args.op (group_of c.args.op) 11 c.in-11.is c.dyadic_masks-in-11.ensures)

pub returns-in-12 : goal.returns-in-12
unfolding classify_of sets_of
returns-in-12 c = both c.args.op c.joined-in-12.ensures (words.group_is c.args.op c.in-12.is c.group12.ensures) (masks.group_is c.args.op (group_of c.args.op) 12 c.in-12.is c.dyadic_masks-in-12.ensures)

pub returns-in-14 : goal.returns-in-14
unfolding classify_of sets_of
returns-in-14 c = both c.args.op c.joined-in-14.ensures (words.group_is c.args.op c.in-14.is c.group14.ensures) (masks.group_is c.args.op (group_of c.args.op) 14 c.in-14.is c.shift_masks.ensures)

pub returns-in-1-to-3 : goal.returns-in-1-to-3
unfolding classify_of sets_of
returns-in-1-to-3 c =
    both c.args.op c.joined-in-1-to-3.ensures (words.group_move c.args.op (group_of c.args.op) (λ e. omega (arith, e)) (omega arith) c.move_060.ensures)
    (masks.group_move c.args.op (group_of c.args.op) (omega arith) (omega arith) c.move_masks.ensures)

pub returns-in_default : goal.returns-in_default
unfolding classify_of sets_of
returns-in_default c =
    both c.args.op c.joined-in_default.ensures
    (words.group_none c.args.op (group_of c.args.op) (omega arith) (λ e. omega (arith, e)) (λ e. omega (arith, e)) (λ e. omega (arith, e)) (λ e. omega (arith, e)) (λ e. omega (arith, e)) (λ e. grind (arith, e)) (λ e. grind (arith, e)) (λ e. omega (arith, e)) (λ e. omega (arith, e)) (λ e. omega (arith, e)) c.unclassified.ensures)
    (group_none c.args.op (group_of c.args.op) (omega arith) (omega arith) (λ e. omega (arith, e)) (λ e. omega (arith, e)) (λ e. omega (arith, e)) (λ e. omega (arith, e)) (λ e. omega (arith, e)) (λ e. grind (arith, e)) (λ e. grind (arith, e)) (λ e. omega (arith, e)) (λ e. omega (arith, e)) (λ e. omega (arith, e)) c.full-in_default.ensures)
