-- `put_modes`: there is room for the next, and it stands behind the others.
use borrow.Author.Rules.{rules}
use Rattle.rule_text.specs.Names.{mode_count}
use Rattle.rule_text.specs.Lines.{mode_line}
use Rattle.rule_text.proofs.Each.{each_room, each_on}
use Rattle.rule_text.proofs.put_modes.Goals as goal

pub put_mode_line-place-requires : goal.put_mode_line-place-requires
put_mode_line-place-requires c = each_room (mode_line c.args.rule.number) mode_count _ _ _ c.loop-number.invariant (search rules) c.requires

pub loop-number-preserved : goal.loop-number-preserved
loop-number-preserved c = each_on (mode_line c.args.rule.number) mode_count _ _ _ c.loop-number.invariant (search rules) c.requires c.put_mode_line-place.ensures
