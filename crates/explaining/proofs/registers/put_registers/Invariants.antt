-- `put_registers`: what so many bits add stands there.
use mathlib.Core.Path.{◌≡◌}
use Rattle.text.specs.Written.{written, written_of}
use Rattle.rule_text.specs.Each.{each_from}
use Rattle.explaining.specs.Words.{register_text}
use Rattle.explaining.proofs.registers.put_registers.Given as goal

abbrev pub invariant-loop-n : goal.invariant-loop-n
invariant-loop-n l = written l.place l.out ≡ written_of l.initial.out l.start (each_from 0 l.n (register_text l.mask))
