-- `rule_of`: table and rules agree with the classifier. One test, computed at all 65,536 opcodes (some 20 seconds), and
-- the law that turns it into the rule of a row.
use mathlib.Core.Path.{◌≡◌, refl}
use mathlib.Core.Bool.{true}
use mathlib.Core.List.{List}
use Prim.Native.Nat.{ℕ, ◌/◌}
use native.Mathlib.Omega.{arith}
use lib.ListN.{length}
use Rattle.bits.specs.Pattern.{matches}
use Rattle.classifier.specs.Entry.{ea}
use Rattle.classifier.specs.LowGroups.{group0, move, group5, group6, group7}
use Rattle.classifier.specs.Group4.{group4}
use Rattle.classifier.specs.HighGroups.{group8, add_sub, group11, group12, group14}
use Rattle.classifier.specs.Classify.{classify_of}
use Rattle.classifier.specs.Rules.{rules, finish_of, finishes}
use Rattle.classifier.proofs.Finishing.{right_from, named, named_rule}
use Rattle.bits.proofs.LaidOut.{laid_out}
use Rattle.classifier.proofs.table.rule_of.Code.Mir as code
use Rattle.classifier.proofs.table.rule_of.Goals as goal

-- the table, as the function's first statement lays it out
abbrev numbers : List ℕ
numbers = laid_out code.s-1

tested : right_from 0 numbers ≡ true
unfolding finishes finish_of rules classify_of group0 move group4 group5 group6 group7 group8 add_sub group11 group12 group14 matches ea
tested = refl

whole : length numbers ≡ 1024
whole = refl

pub returns-clause-value : goal.returns-clause-value
returns-clause-value c = named_rule numbers tested (c.args.op / 64) (omega (arith, whole))

pub returns-clause-upper_bound : goal.returns-clause-upper_bound
returns-clause-upper_bound c = named numbers tested (c.args.op / 64) (omega (arith, whole))
