-- `finish`: each arm of the match is the rule of its number, with a guard its first row; the last is that of all numbers from 28 on.
use mathlib.Core.Path.{refl, sym, ap, ◌∙◌}
use native.Mathlib.Omega.{arith}
use Rattle.bits.specs.Instructions.{data_register, address_register, any_register, immediate, rox}
use Rattle.bits.proofs.Patterns.{hit, miss}
use Rattle.class_word.specs.Word.{info}
use Rattle.class_word.specs.declared.OepClass.TheVariants.{PoepSoep}
use Rattle.classifier.specs.Entry.{read, together}
use Rattle.classifier.specs.Rules.{to_memory, to_indexed, rules, finish_of}
use Rattle.classifier.proofs.Finishing.{by_rule, last_rule}
use Rattle.classifier.proofs.Flags.{flags_together, entry_packed}
use Rattle.classifier.proofs.rules.finish.Goals as goal

pub returns-in-0 : goal.returns-in-0
unfolding finish_of rules
returns-in-0 c = by_rule c.args.six c.in-0.is (rw (hit immediate c.args.six c.if-at_immediate.true) c.poep_only.ensures)

pub returns-in-0-2 : goal.returns-in-0-2
unfolding finish_of rules
returns-in-0-2 c = by_rule c.args.six c.in-0.is (rw (miss immediate c.args.six c.if-at_immediate.false) c.alu_of.ensures)

pub returns-in-1 : goal.returns-in-1
unfolding finish_of rules
returns-in-1 c = by_rule c.args.six c.in-1.is c.unclassified.ensures

pub returns-in-2 : goal.returns-in-2
unfolding finish_of rules
returns-in-2 c = by_rule c.args.six c.in-2.is c.bit_entry.ensures

pub returns-in-3 : goal.returns-in-3
unfolding finish_of rules
returns-in-3 c = by_rule c.args.six c.in-3.is c.bit_entry-in-3.ensures

pub returns-in-4 : goal.returns-in-4
unfolding finish_of rules
returns-in-4 c = by_rule c.args.six c.in-4.is (rw (hit immediate c.args.six c.if-at_immediate-2.true) c.poep_only-in-4.ensures)

pub returns-in-4-2 : goal.returns-in-4-2
unfolding finish_of rules
returns-in-4-2 c = by_rule c.args.six c.in-4.is (rw (miss immediate c.args.six c.if-at_immediate-2.false) c.alu_of-in-4-2.ensures)

pub returns-in-5 : goal.returns-in-5
unfolding finish_of rules
returns-in-5 c = by_rule c.args.six c.in-5.is c.alu_of-in-5.ensures

pub returns-in-6 : goal.returns-in-6
unfolding finish_of rules
returns-in-6 c =
    by_rule c.args.six c.in-6.is
    (c.alu.ensures
    ∙ entry_packed PoepSoep 1 1024 (omega arith) refl refl (together (read c.args.six) to_memory) (flags_together (read c.args.six) to_memory c.operand_flags.ensures refl))

pub returns-in-7 : goal.returns-in-7
unfolding finish_of rules
returns-in-7 c =
    by_rule c.args.six c.in-7.is
    (c.alu-in-7.ensures
    ∙ entry_packed PoepSoep 1 1024 (omega arith) refl refl (together (read c.args.six) to_indexed) (flags_together (read c.args.six) to_indexed c.operand_flags-in-7.ensures refl))

pub returns-in-8 : goal.returns-in-8
unfolding finish_of rules
returns-in-8 c = by_rule c.args.six c.in-8.is c.alu_of-in-8.ensures

pub returns-in-9 : goal.returns-in-9
unfolding finish_of rules
returns-in-9 c = by_rule c.args.six c.in-9.is c.poep_only-in-9.ensures

pub returns-in-10 : goal.returns-in-10
unfolding finish_of rules
returns-in-10 c = by_rule c.args.six c.in-10.is c.poep_only-in-10.ensures

pub returns-in-11 : goal.returns-in-11
unfolding finish_of rules
returns-in-11 c = by_rule c.args.six c.in-11.is c.lea_060.ensures

pub returns-in-12 : goal.returns-in-12
unfolding finish_of rules
returns-in-12 c = by_rule c.args.six c.in-12.is (rw (hit data_register c.args.six c.if-at_dn.true) c.alu-in-12.ensures)

pub returns-in-12-2 : goal.returns-in-12-2
unfolding finish_of rules
returns-in-12-2 c = by_rule c.args.six c.in-12.is (rw (miss data_register c.args.six c.if-at_dn.false) c.poep_only-in-12-2.ensures)

pub returns-in-13 : goal.returns-in-13
unfolding finish_of rules
returns-in-13 c = by_rule c.args.six c.in-13.is (rw (hit data_register c.args.six c.if-at_dn-2.true) c.alu-in-13.ensures)

pub returns-in-13-2 : goal.returns-in-13-2
unfolding finish_of rules
returns-in-13-2 c = by_rule c.args.six c.in-13.is (rw (miss data_register c.args.six c.if-at_dn-2.false) c.new.ensures)

pub returns-in-14 : goal.returns-in-14
unfolding finish_of rules
returns-in-14 c = by_rule c.args.six c.in-14.is c.poep_only-in-14.ensures

pub returns-in-15 : goal.returns-in-15
unfolding finish_of rules
returns-in-15 c = by_rule c.args.six c.in-15.is c.poep_only-in-15.ensures

pub returns-in-16 : goal.returns-in-16
unfolding finish_of rules
returns-in-16 c = by_rule c.args.six c.in-16.is (rw (hit data_register c.args.six c.if-at_dn-3.true) c.poep_only-in-16.ensures)

pub returns-in-16-2 : goal.returns-in-16-2
unfolding finish_of rules
returns-in-16-2 c = by_rule c.args.six c.in-16.is (rw (miss data_register c.args.six c.if-at_dn-3.false) c.new-in-16-2.ensures)

pub returns-in-17 : goal.returns-in-17
unfolding finish_of rules
returns-in-17 c = by_rule c.args.six c.in-17.is (rw (hit address_register c.args.six c.if-at_an.true) c.poep_only-in-17.ensures)

pub returns-in-17-2 : goal.returns-in-17-2
unfolding finish_of rules
returns-in-17-2 c = by_rule c.args.six c.in-17.is (rw (miss address_register c.args.six c.if-at_an.false) c.scc.ensures)

pub returns-in-18 : goal.returns-in-18
unfolding finish_of rules
returns-in-18 c = by_rule c.args.six c.in-18.is c.poep_only-in-18.ensures

pub returns-in-19 : goal.returns-in-19
unfolding finish_of rules
returns-in-19 c = by_rule c.args.six c.in-19.is c.poep_only-in-19.ensures

pub returns-in-20 : goal.returns-in-20
unfolding finish_of rules
returns-in-20 c = by_rule c.args.six c.in-20.is c.alu-in-20.ensures

pub returns-in-21 : goal.returns-in-21
unfolding finish_of rules
returns-in-21 c = by_rule c.args.six c.in-21.is (rw (hit any_register c.args.six c.if-at_register.true) c.poep_only-in-21.ensures)

pub returns-in-21-2 : goal.returns-in-21-2
unfolding finish_of rules
returns-in-21-2 c = by_rule c.args.six c.in-21.is (rw (miss any_register c.args.six c.if-at_register.false) c.alu_of-in-21-2.ensures)

pub returns-in-22 : goal.returns-in-22
unfolding finish_of rules
returns-in-22 c = by_rule c.args.six c.in-22.is (rw (hit any_register c.args.six c.if-at_register-2.true) c.poep_only-in-22.ensures)

pub returns-in-22-2 : goal.returns-in-22-2
unfolding finish_of rules
returns-in-22-2 c = by_rule c.args.six c.in-22.is (rw (miss any_register c.args.six c.if-at_register-2.false) c.alu_of-in-22-2.ensures)

pub returns-in-23 : goal.returns-in-23
unfolding finish_of rules
returns-in-23 c = by_rule c.args.six c.in-23.is (rw (hit any_register c.args.six c.if-at_register-3.true) c.poep_only-in-23.ensures)

pub returns-in-23-2 : goal.returns-in-23-2
unfolding finish_of rules
returns-in-23-2 c = by_rule c.args.six c.in-23.is (rw (miss any_register c.args.six c.if-at_register-3.false) c.alu_of-in-23-2.ensures)

pub returns-in-24 : goal.returns-in-24
unfolding finish_of rules
returns-in-24 c = by_rule c.args.six c.in-24.is c.poep_only-in-24.ensures

pub returns-in-25 : goal.returns-in-25
unfolding finish_of rules
returns-in-25 c = by_rule c.args.six c.in-25.is (rw (hit any_register c.args.six c.if-at_register-4.true) c.poep_only-in-25.ensures)

pub returns-in-25-2 : goal.returns-in-25-2
unfolding finish_of rules
returns-in-25-2 c = by_rule c.args.six c.in-25.is (rw (miss any_register c.args.six c.if-at_register-4.false) c.alu_of-in-25-2.ensures)

pub returns-in-26 : goal.returns-in-26
unfolding finish_of rules
returns-in-26 c = by_rule c.args.six c.in-26.is (rw (hit address_register c.args.six c.if-at_an-2.true) c.poep_only-in-26.ensures)

pub returns-in-26-2 : goal.returns-in-26-2
unfolding finish_of rules
returns-in-26-2 c = by_rule c.args.six c.in-26.is (rw (miss address_register c.args.six c.if-at_an-2.false) c.alu_of-in-26-2.ensures)

pub returns-in-27 : goal.returns-in-27
unfolding finish_of rules
returns-in-27 c = by_rule c.args.six c.in-27.is (rw (hit rox c.args.six c.if-is_rox.true) c.poep_only-in-27.ensures)

pub returns-in-27-2 : goal.returns-in-27-2
unfolding finish_of rules
returns-in-27-2 c = by_rule c.args.six c.in-27.is (rw (miss rox c.args.six c.if-is_rox.false) c.alu-in-27-2.ensures)

pub returns-in_default : goal.returns-in_default
unfolding finish_of rules
returns-in_default c = c.new-in_default.ensures ∙ ap info (sym (last_rule c.args.rule c.args.six (omega arith)))
