-- `run_words`: record after record, what is left to run from here gives what all give from the start; each cost is
-- below 2 ^ 32, so the total fits.
use mathlib.Core.Path.{refl, ◌∙◌}
use Prim.Native.Nat.{◌^◌, ◌<◌}
use native.Mathlib.Omega.{arith}
use borrow.Author.Rules.{rules}
use Rattle.in_place.specs.WindowNumbers.{window_at}
use Rattle.in_place.specs.Lent.{lent, state_at}
use Rattle.in_place.proofs.Held.{stepped_held, window_plain, taken_out}
use Rattle.refusals.specs.Runs.{runs}
use Rattle.host.specs.HostWords.{words_at}
use Rattle.host.proofs.Batch.{rest_again, seen_plain, run_ends}
use Rattle.host.proofs.words.run_words.Goals as goal

pub loop-i-init : goal.loop-i-init
loop-i-init c = record {
  small = omega arith;
  plain = seen_plain (window_at c.args.window.now) c.see_window.ensures;
  same = c.new-decoded.ensures.of_profile;
  rest = refl;
}

pub loop-i-preserved : goal.loop-i-preserved
loop-i-preserved c =
    let p = c.args.profile in
    let from = lent c.loop-i.tags c.loop-i.state c.loop-i.window in
    let r = words_at c.args.records.now c.loop-i.i in
    let small : c.clocks_in-cost.result.0 < 2 ^ 32 = search rules in
    let e = taken_out p from r (rw c.loop-i.invariant.same at c.retire_record-told.ensures.window_after) c.clocks_in-cost.ensures c.answer_in.ensures in
    record {
      small = omega (arith, c.loop-i.invariant.small, small);
      plain = window_plain p from r e;
      same = c.retire_record-told.ensures.profile_after ∙ c.loop-i.invariant.same;
      rest =
          rest_again p c.args.records.now (runs c.loop-i.costs c.loop-i.answers) c.loop-i.i c.loop-i.total
          (state_at from) c.loop-i-test.true (omega arith) (omega arith) (stepped_held p from r e)
          ∙ c.loop-i.invariant.rest;
    }

pub returns : goal.returns
returns c =
    run_ends c.args.profile c.args.records.now (runs c.loop-i.costs c.loop-i.answers)
    (runs c.args.costs.now c.args.answers.now) c.loop-i.i c.loop-i.total
    (lent c.loop-i.tags c.loop-i.state c.loop-i.window)
    (lent c.args.tags.now c.args.state.now c.args.window.now) c.loop-i-test.false c.loop-i.invariant.plain
    c.see_window.ensures c.loop-i.invariant.rest
