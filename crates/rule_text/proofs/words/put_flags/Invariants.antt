-- `put_flags`: so many of the names stand there.
use mathlib.Core.Path.{◌≡◌}
use Rattle.text.specs.Written.{written, written_of}
use Rattle.rule_text.specs.Each.{each_from}
use Rattle.rule_text.proofs.Flags.{flag_at}
use Rattle.rule_text.proofs.words.put_flags.Given as goal

abbrev pub invariant-loop-flag : goal.invariant-loop-flag
invariant-loop-flag l =
    written l.place l.out ≡ written_of l.initial.out l.initial.place (each_from 0 l.flag-index (flag_at l.word.0))
