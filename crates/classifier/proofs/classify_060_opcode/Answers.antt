-- `classify_060_opcode`: the rule of the row, finished by the low six bits.
use mathlib.Core.Path.{ap, ap₂, ◌∙◌}
use Rattle.class_word.specs.Word.{info}
use Rattle.classifier.specs.Rules.{finish_of}
use Rattle.classifier.proofs.Six.{low_six}
use Rattle.classifier.proofs.Finishing.{rule_finishes}
use Rattle.classifier.proofs.classify_060_opcode.Goals as goal

pub returns : goal.returns
returns c = c.finish.ensures ∙ ap info (ap₂ finish_of c.rule_of.ensures.value (low_six c.args.op) ∙ rule_finishes c.args.op (rw c.rule_of.ensures.value at c.rule_of.ensures.upper_bound))
