-- `bit_operation`: the test is that of BTST.
use mathlib.Core.Path.{ap, ◌∙◌}
use mathlib.Core.Bool.{Bool, true, not}
use Rattle.bits.specs.Instructions.{btst}
use Rattle.bits.specs.Fields.{mode_of, reg_of}
use Rattle.bits.proofs.Patterns.{masked}
use Rattle.class_word.specs.declared.OepClass.TheVariants.{PoepOnly}
use Rattle.class_word.specs.Word.{info, DEFINES_CCR}
use Rattle.classifier.specs.Entry.{ea, entry, entry_word}
use Rattle.classifier.proofs.low_groups.bit_operation.Goals as goal

pub returns : goal.returns
returns c =
    c.bit_entry.ensures
    ∙ ap (λ (t : Bool). info (entry_word (entry PoepOnly 1 DEFINES_CCR (ea (mode_of c.args.op) (reg_of c.args.op) true (not t))))) (masked btst c.args.op)
