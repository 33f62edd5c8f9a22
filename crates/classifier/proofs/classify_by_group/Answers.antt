-- `classify_by_group`: each arm of the match is a row of the groups.
use mathlib.Core.Logic.{⊎_elim}
use native.Mathlib.Omega.{arith}
use Rattle.bits.specs.Fields.{group_of}
use Rattle.classifier.specs.Classify.{classify_of}
use Rattle.classifier.proofs.Groups.{group_is, group_move, group_none}
use Rattle.classifier.proofs.classify_by_group.Goals as goal

pub returns-in-0 : goal.returns-in-0
unfolding classify_of
returns-in-0 c = group_is _ c.in-0.is c.group0.ensures

pub returns-in-4 : goal.returns-in-4
unfolding classify_of
returns-in-4 c = group_is _ c.in-4.is c.group4.ensures

pub returns-in-5 : goal.returns-in-5
unfolding classify_of
returns-in-5 c = group_is _ c.in-5.is c.group5.ensures

pub returns-in-6 : goal.returns-in-6
unfolding classify_of
returns-in-6 c = group_is _ c.in-6.is c.group6.ensures

pub returns-in-7 : goal.returns-in-7
unfolding classify_of
returns-in-7 c = group_is _ c.in-7.is c.group7.ensures

pub returns-in-8 : goal.returns-in-8
unfolding classify_of
returns-in-8 c = group_is _ c.in-8.is c.group8.ensures

pub returns-in-9 : goal.returns-in-9
unfolding classify_of
returns-in-9 c = ⊎_elim (λ k. group_is _ k c.add_sub.ensures) (λ k. group_is _ k c.add_sub.ensures) c.in-9.is

pub returns-in-11 : goal.returns-in-11
unfolding classify_of
returns-in-11 c = group_is _ c.in-11.is c.group11.ensures

pub returns-in-12 : goal.returns-in-12
unfolding classify_of
returns-in-12 c = group_is _ c.in-12.is c.group12.ensures

pub returns-in-14 : goal.returns-in-14
unfolding classify_of
returns-in-14 c = group_is _ c.in-14.is c.group14.ensures

pub returns-in-1-to-3 : goal.returns-in-1-to-3
unfolding classify_of
returns-in-1-to-3 c = group_move c.args.op (group_of c.args.op) (λ e. omega (arith, e)) (omega arith) c.move_060.ensures

pub returns-in_default : goal.returns-in_default
unfolding classify_of
returns-in_default c =
    group_none c.args.op (group_of c.args.op) (omega arith) (λ e. omega (arith, e)) (λ e. omega (arith, e)) (λ e. omega (arith, e)) (λ e. omega (arith, e)) (λ e. omega (arith, e)) (λ e. grind (arith, e)) (λ e. grind (arith, e)) (λ e. omega (arith, e)) (λ e. omega (arith, e)) (λ e. omega (arith, e))
    c.unclassified.ensures
