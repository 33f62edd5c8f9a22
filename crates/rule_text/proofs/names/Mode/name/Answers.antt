-- `name` of a mode: a test computed at every mode.
use mathlib.Core.Path.{refl}
use Rattle.rule_text.specs.Names.{mode_count, mode_names}
use Rattle.rule_text.proofs.Listed.{listed, same_text}
use Rattle.rule_text.proofs.names.Mode.name.Goals as goal

pub returns : goal.returns
unfolding mode_names
returns c = listed _ mode_count c.args.self.number c.args.self.is_mode (λ k e t. rw e (same_text t)) refl
