-- `move_060`: the flags of both operands, or-ed, are those of the two together.
use mathlib.Core.Path.{refl, ◌∙◌}
use mathlib.Core.Bool.{true, false}
use native.Mathlib.Omega.{arith}
use Rattle.bits.specs.Fields.{dst_mode_of, dst_reg_of}
use Rattle.class_word.specs.declared.OepClass.TheVariants.{PoepSoep}
use Rattle.classifier.specs.Entry.{ea, read, together}
use Rattle.classifier.specs.LowGroups.{move}
use Rattle.classifier.proofs.Flags.{flags_together, entry_packed}
use Rattle.classifier.proofs.low_groups.move_060.Goals as goal

pub returns : goal.returns
unfolding move
returns c =
    let to = ea (dst_mode_of c.args.op) (dst_reg_of c.args.op) false true in
    c.alu.ensures
    ∙ entry_packed PoepSoep 1 1024 (omega arith) refl refl (together (read c.args.op) to)
    (flags_together (read c.args.op) to c.operand_flags-source.ensures c.destination_flags-destination.ensures)
