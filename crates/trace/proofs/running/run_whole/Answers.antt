-- `run_whole`: the retirement of the record, by what the run's table says of its opcode.
use mathlib.Core.Path.{◌≡◌, sym, ap, ◌∙◌}
use Rattle.in_place.specs.Lent.{lent}
use Rattle.in_place.specs.Retire.{Paid, retire_by_of, retire_at_of}
use Rattle.in_place.proofs.Paying.{paid_looked_up}
use Rattle.records.specs.Layout.{retirement_at}
use Rattle.trace.proofs.running.run_whole.Goals as goal
use Rattle.trace.proofs.running.run_whole.Goals.{After-look_up-instruction}

-- what is paid by the table is what the profile has of the record
paid : (c : After-look_up-instruction) {x : Paid}
    → x ≡ retire_by_of c.look_up-instruction.result c.retirement_at-r.result.op c.retirement_at-r.result.controls
    (lent c.look_up-instruction.new.tags c.look_up-instruction.new.state c.look_up-instruction.new.window)
    → x ≡ retire_at_of c.args.decoded.now.profile (lent c.args.tags.now c.args.state.now c.args.window.now)
    (retirement_at c.args.trace.now c.args.at)
paid c e =
    let d = c.look_up-instruction.ensures in
    paid_looked_up c.args.decoded.now.profile c.retirement_at-r.result c.look_up-instruction.result e d.window_unchanged
    d.value
    ∙ ap (retire_at_of c.args.decoded.now.profile (lent c.args.tags.now c.args.state.now c.args.window.now))
    c.retirement_at-r.ensures

pub returns-then-has : goal.returns-then-has
returns-then-has c = record {
  window_after =
      paid (goal.at.returns-then-has c).After-look_up-instruction (c.retire_branch.ensures c.retirement_at-r.result.op);
  profile_after = c.look_up-instruction.ensures.profile_after;
}

pub returns-then-k : goal.returns-then-k
returns-then-k c = record {
  window_after =
      paid (goal.at.returns-then-k c).After-look_up-instruction
      (c.retire_flow.ensures c.look_up-instruction.result (sym c.has.ensures ∙ c.if-has.false)
      c.retirement_at-r.result.op _ _);
  profile_after = c.look_up-instruction.ensures.profile_after;
}

pub returns : goal.returns
returns c = record {
  window_after = paid (goal.at.returns c).After-look_up-instruction (c.retire_neither.ensures _ _);
  profile_after = c.look_up-instruction.ensures.profile_after;
}
