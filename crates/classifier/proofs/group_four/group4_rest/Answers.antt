-- `group4_rest`: the match is that of the four rows after the ninth, which answer the same.
use mathlib.Core.Path.{sym, ap, ◌∙◌}
use native.Mathlib.Omega.{arith}
use Rattle.bits.specs.Instructions.{clr, negx, neg, not'}
use Rattle.bits.specs.Rows.{rows_after}
use Rattle.class_word.specs.Word.{info}
use Rattle.classifier.specs.Entry.{Entry, entry_word, alu, modified}
use Rattle.classifier.specs.Group4.{group4}
use Rattle.classifier.proofs.FourRows.{second_first, one_of_four, none_of_four}
use Rattle.classifier.proofs.group_four.group4_rest.Goals as goal

pub returns-in-512 : goal.returns-in-512
unfolding group4
returns-in-512 c =
    c.alu_of.ensures
    ∙ ap (λ (e : Entry). info (entry_word e)) (sym (one_of_four clr negx neg not' c.args.op (alu (modified c.args.op)) (rows_after 13 (group4 c.args.op)) (second_first c.in-512.is)))

pub returns-in_default : goal.returns-in_default
unfolding group4
returns-in_default c =
    c.group4_last.ensures
    ∙ ap (λ (e : Entry). info (entry_word e)) (sym (none_of_four clr negx neg not' c.args.op (alu (modified c.args.op)) (rows_after 13 (group4 c.args.op)) (λ h. grind (arith, h))))
