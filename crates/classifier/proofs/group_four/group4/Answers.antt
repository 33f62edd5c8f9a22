-- `group4`: the match is that of the first four rows, which answer the same.
use mathlib.Core.Path.{sym, ap, ◌∙◌}
use borrow.Author.Rules.{rules}
use Rattle.bits.specs.Instructions.{move_from_sr, move_from_ccr, move_to_ccr, move_to_sr}
use Rattle.bits.specs.Rows.{rows_after}
use Rattle.class_word.specs.Word.{info}
use Rattle.classifier.specs.Entry.{Entry, entry_word, serial}
use Rattle.classifier.specs.Group4.{group4}
use Rattle.classifier.proofs.FourRows.{one_of_four, none_of_four}
use Rattle.classifier.proofs.group_four.group4.Goals as goal

pub returns-in-192 : goal.returns-in-192
unfolding group4
returns-in-192 c =
    c.poep_only.ensures
    ∙ ap (λ (e : Entry). info (entry_word e)) (sym (one_of_four move_from_sr move_from_ccr move_to_ccr move_to_sr c.args.op serial (rows_after 4 (group4 c.args.op)) c.in-192.is))

pub returns-in_default : goal.returns-in_default
unfolding group4
returns-in_default c =
    c.group4_middle.ensures
    ∙ ap (λ (e : Entry). info (entry_word e)) (sym (none_of_four move_from_sr move_from_ccr move_to_ccr move_to_sr c.args.op serial (rows_after 4 (group4 c.args.op)) (search rules)))
