-- `group7`: its one row.
use Rattle.classifier.specs.LowGroups.{group7}
use Rattle.classifier.proofs.low_groups.group7.Goals as goal

pub returns : goal.returns
unfolding group7
returns c = c.alu.ensures
