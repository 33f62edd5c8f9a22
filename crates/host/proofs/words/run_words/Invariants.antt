-- `run_words`: record after record, what is left to run from here gives what all give from the start.
use mathlib.Core.Path.{◌≡◌}
use Prim.Native.Nat.{◌*◌, ◌≤◌}
use lib.ListN.{drop}
use Rattle.state.specs.Timing.{timing_at}
use Rattle.in_place.specs.WindowNumbers.{window_at, numbers_of}
use Rattle.refusals.specs.Runs.{runs}
use Rattle.batch.proofs.Loop.{rest_of}
use Rattle.host.specs.HostWords.{retirements_of}
use Rattle.host.proofs.words.run_words.Given as goal

abbrev pub invariant-loop-i : goal.invariant-loop-i
invariant-loop-i l = record {
  small : l.total ≤ l.i * 4294967295;
  plain : numbers_of (window_at l.window) ≡ l.window;
  same : l.decoded.profile ≡ l.fn.profile;
  rest : rest_of l.fn.profile l.i l.total (runs l.costs l.answers) (timing_at l.tags l.state (window_at l.window))
      (retirements_of (drop (4 * l.i) l.records))
      ≡ rest_of l.fn.profile 0 0 (runs l.initial.costs l.initial.answers)
      (timing_at l.initial.tags l.initial.state (window_at l.initial.window)) (retirements_of l.records);
}
