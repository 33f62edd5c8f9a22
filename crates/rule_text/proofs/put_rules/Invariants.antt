-- `put_rules`: so many of the texts stand there.
use mathlib.Core.Path.{◌≡◌}
use Rattle.text.specs.Written.{written, written_of}
use Rattle.rule_text.specs.Each.{each_from}
use Rattle.rule_text.specs.Page.{rule_text}
use Rattle.rule_text.proofs.put_rules.Given as goal

abbrev pub invariant-loop-number : goal.invariant-loop-number
invariant-loop-number l =
    written l.place l.out ≡ written_of l.initial.out l.start (each_from 0 l.number rule_text)
