-- `put_rows`: there is room for the next, and it stands behind the others.
use borrow.Author.Rules.{rules}
use Rattle.rule_text.specs.Lines.{row_count, row_text}
use Rattle.rule_text.proofs.Each.{each_room, each_on}
use Rattle.rule_text.proofs.put_rows.Goals as goal

pub put_row-place-requires : goal.put_row-place-requires
put_row-place-requires c = each_room row_text row_count _ _ _ c.loop-number.invariant (search rules) c.requires

pub loop-number-preserved : goal.loop-number-preserved
loop-number-preserved c = each_on row_text row_count _ _ _ c.loop-number.invariant (search rules) c.requires c.put_row-place.ensures
