-- A record is run as the definition says, and none is left at the end (`Loop`).
use Rattle.std.proofs.Common.{◌≡◌, ◌^◌, ◌<◌, length, arith, ◌∙◌}
use borrow.Author.Rules.{rules}
use lib.Seq.{drop-length}
use Rattle.refusals.specs.Runs.{runs}
use Rattle.batch.proofs.Loop.{rest_next, batch_ends}
use Rattle.batch.proofs.run_all.Goals as goal

pub loop-i-preserved : goal.loop-i-preserved
loop-i-preserved c =
    let cost : c.cycles_060-stepped.result.cost.0 < 2 ^ 32 = search rules in
    record {
      small = omega (arith, c.loop-i.invariant.small, cost);
      rest =
          rw c.from.ensures
          (rest_next c.args.chosen.profile c.loop-i.i c.loop-i.total (runs c.loop-i.costs c.loop-i.answers) c.loop-i.timing
          c.args.rs.now _ c.loop-i-test.true (omega arith) (omega arith) c.cycles_060-stepped.ensures
          ∙ c.loop-i.invariant.rest);
    }

pub returns : goal.returns
returns c =
    let i : c.loop-i.i ≡ length c.args.rs.now = omega arith in
    batch_ends c.args.chosen.profile c.loop-i.i c.loop-i.total (runs c.loop-i.costs c.loop-i.answers)
    (runs c.args.costs.now c.args.answers.now) c.loop-i.timing c.args.chosen.timing c.args.rs.now
    (rw i (drop-length c.args.rs.now)) c.loop-i.invariant.rest
