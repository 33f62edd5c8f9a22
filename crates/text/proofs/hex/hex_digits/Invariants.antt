-- `hex_digits`: the digits of what is left of the number, before those that stand, are all of them.
use mathlib.Core.Path.{◌≡◌}
use mathlib.Core.List.{◌++◌}
use lib.ListN.{length, drop}
use Rattle.text.specs.Hex.{hex_digits}
use Rattle.text.proofs.hex.hex_digits.Given as goal

abbrev pub invariant-loop-i : goal.invariant-loop-i
invariant-loop-i g l =
    record {
      as_many : length l.digits ≡ g.row.DIGITS;
      all : hex_digits l.i l.rest ++ drop l.i l.digits ≡ hex_digits g.row.DIGITS l.n;
    }
