-- `put_rules`: there is room for the next, and it stands behind the others.
use borrow.Author.Rules.{rules}
use Rattle.classifier.specs.Rules.{rule_count}
use Rattle.rule_text.specs.Page.{rule_text}
use Rattle.rule_text.proofs.Each.{each_room, each_on}
use Rattle.rule_text.proofs.put_rules.Goals as goal

pub put_rule-place-requires : goal.put_rule-place-requires
put_rule-place-requires c = each_room rule_text rule_count _ _ _ c.loop-number.invariant (search rules) c.requires

pub loop-number-preserved : goal.loop-number-preserved
loop-number-preserved c = each_on rule_text rule_count _ _ _ c.loop-number.invariant (search rules) c.requires c.put_rule-place.ensures
