-- `read_or_modified`: the test is the pattern's, and either row is the entry with that write.
use mathlib.Core.Path.{◌≡◌, refl, ap, ◌∙◌}
use mathlib.Core.Bool.{Bool, true, false}
use Prim.Native.Nat.{ℕ}
use Rattle.bits.specs.Pattern.{matches}
use Rattle.bits.specs.Instructions.{to_operand}
use Rattle.bits.specs.Fields.{mode_of, reg_of}
use Rattle.bits.specs.Rows.{rows_after}
use Rattle.bits.proofs.Patterns.{masked}
use Rattle.class_word.specs.declared.Info060.{Info060}
use Rattle.class_word.specs.Word.{info}
use Rattle.classifier.specs.Entry.{ea, alu, entry_word, packed}
use Rattle.classifier.specs.HighGroups.{group11}
use Rattle.classifier.proofs.high_groups.read_or_modified.Goals as goal

abbrev written : ℕ → Bool → Info060
written op b = info (entry_word (alu (ea (mode_of op) (reg_of op) true b)))

rows : (op : ℕ) (b : Bool) → matches to_operand op ≡ b → written op b ≡ packed (rows_after 1 (group11 op))
unfolding group11
rows op true e = rw e
rows op false e = rw e

pub returns : goal.returns
returns c = c.alu_of.ensures ∙ ap (written c.args.op) (masked to_operand c.args.op) ∙ rows c.args.op (matches to_operand c.args.op) refl
