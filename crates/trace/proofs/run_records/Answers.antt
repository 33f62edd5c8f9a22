-- `run_records`: the run as it goes on (`Going`), turn by turn, from the window as it is read.
use mathlib.Core.Path.{◌∙◌}
use native.Mathlib.Omega.{arith}
use borrow.Author.Rules.{rules}
use Rattle.little_endian.proofs.Loops.{set_puts}
use Rattle.in_place.specs.Lent.{lent, state_at}
use Rattle.in_place.specs.WindowNumbers.{window_at}
use Rattle.refusals.specs.Runs.{runs}
use Rattle.records.proofs.Reading.{read_end}
use Rattle.records.specs.Trace.{read_trace}
use Rattle.trace.specs.TraceTurns.{turned}
use Rattle.trace.proofs.Going.{going_end, going_bad}
use Rattle.trace.proofs.Turning.{Gone, turn_gone}
use Rattle.trace.proofs.Starting.{seen_start, outcome_seen}
use Rattle.trace.proofs.run_records.Goals as goal
use Rattle.trace.proofs.run_records.Goals.{After-run_checked-turn}

-- what the turn does to the run that goes on
gone : (c : After-run_checked-turn) → Gone (lent c.loop-at.tags c.loop-at.state c.loop-at.window) c.loop-at.invariant.going
    (turned c.run_checked-turn.result
    (lent c.run_checked-turn.new.tags c.run_checked-turn.new.state c.run_checked-turn.new.window))
gone c =
    turn_gone (lent c.loop-at.tags c.loop-at.state c.loop-at.window) c.loop-at.invariant.going c.loop-at-test.true
    (rw c.loop-at.invariant.same at c.run_checked-turn.ensures.window_after)

pub run_checked-turn-requires : goal.run_checked-turn-requires
run_checked-turn-requires c = record { unrefused = λ refusal. going_bad c.loop-at.invariant.going refusal }

pub put_u32-requires : goal.put_u32-requires
put_u32-requires c = ((gone (goal.at.put_u32-requires c).After-run_checked-turn).room c.in-Some.is).0

pub bounds-answers-count : goal.bounds-answers-count
bounds-answers-count c = ((gone (goal.at.bounds-answers-count c).After-run_checked-turn).room c.in-Some.is).1

pub loop-at-smaller-in-Some : goal.loop-at-smaller-in-Some
loop-at-smaller-in-Some c = (gone (goal.at.loop-at-smaller-in-Some c).After-run_checked-turn).nearer

pub loop-at-preserved-in-Some : goal.loop-at-preserved-in-Some
loop-at-preserved-in-Some c =
    let g = gone (goal.at.loop-at-preserved-in-Some c).After-run_checked-turn in
    record {
      same = c.run_checked-turn.ensures.profile_after ∙ c.loop-at.invariant.same;
      going =
          rw (
            c.put_u32.ensures,
            set_puts c.loop-at.answers c.loop-at.count c.in-Some.paid.answer (g.room c.in-Some.is).1,
          )
          (g.paid c.in-Some.is (search rules));
    }

pub loop-at-smaller : goal.loop-at-smaller
loop-at-smaller c = (gone (goal.at.loop-at-smaller c).After-run_checked-turn).nearer

pub loop-at-preserved : goal.loop-at-preserved
loop-at-preserved c = record {
  same = c.run_checked-turn.ensures.profile_after ∙ c.loop-at.invariant.same;
  going = (gone (goal.at.loop-at-preserved c).After-run_checked-turn).quiet c.in_default.is;
}

pub returns : goal.returns
returns c =
    going_end c.loop-at.invariant.going (read_end _ _ (omega arith))
    ∙ outcome_seen c.args.profile (read_trace c.args.trace.now) (runs c.args.costs.now c.args.answers.now)
    (state_at (lent c.args.tags.now c.args.state.now c.args.window.now))
    (seen_start c.args.tags.now c.args.state.now (window_at c.args.window.now) c.see_window.ensures)
