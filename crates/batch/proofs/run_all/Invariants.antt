-- What is kept is that what is left to run, run from here, gives what the whole gives.
use Rattle.std.proofs.Common.{◌≡◌, ◌*◌, ◌≤◌, drop}
use Rattle.state.specs.Timing.{seen_of}
use Rattle.refusals.specs.Runs.{runs}
use Rattle.batch.proofs.Loop.{rest_of}
use Rattle.batch.proofs.run_all.Given as goal

abbrev pub invariant-loop-i : goal.invariant-loop-i
invariant-loop-i l = record {
  small : l.total ≤ l.i * 4294967295;
  rest : rest_of l.profile l.i l.total (runs l.costs l.answers) l.timing (drop l.i l.rs)
      ≡ rest_of l.profile 0 0 (runs l.initial.costs l.initial.answers) (seen_of l.fn.chosen.timing) l.rs;
}
