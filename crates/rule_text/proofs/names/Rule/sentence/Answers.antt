-- `sentence` of a rule: a test computed at every rule.
use mathlib.Core.Path.{refl}
use Rattle.classifier.specs.Rules.{rule_count, rules}
use Rattle.rule_text.proofs.Listed.{listed, same_text}
use Rattle.rule_text.proofs.names.Rule.sentence.Goals as goal

pub returns : goal.returns
unfolding rules
returns c = listed _ rule_count c.args.self.number c.args.self.is_rule (λ k e t. rw e (same_text t)) refl
