-- No more opcodes differ than have been asked.
use Rattle.std.proofs.Common.{◌≤◌}
use Rattle.profile_differences.proofs.main.Given as goal

abbrev pub invariant-loop-op : goal.invariant-loop-op
invariant-loop-op l = l.count ≤ l.op
