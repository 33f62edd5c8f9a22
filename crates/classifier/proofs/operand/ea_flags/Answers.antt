-- `ea_flags`: the three flags, or-ed, add up.
use Prim.Native.Nat.{◌/◌, ◌%◌}
use Rattle.classifier.proofs.Flags.{flags_ea}
use Rattle.classifier.proofs.operand.ea_flags.Goals as goal

pub returns : goal.returns
returns c =
    flags_ea (c.args.six / 8) (c.args.six % 8) c.args.read c.args.write c.is_memory-is_mem.ensures
    c.is_indexed-index.ensures c.flag_if.ensures c.flag_if-2.ensures
    c.flag_if-3.ensures
