-- `run_checked`: a whole retirement is what is read at its place.
use mathlib.Core.Path.{sym, ap, ◌∙◌}
use Prim.Native.Nat.{◌+◌}
use Rattle.std.specs.Prelude.{Some}
use Rattle.state.specs.Timing.{stepped_by}
use Rattle.in_place.specs.Lent.{lent}
use Rattle.in_place.specs.Retire.{Paid}
use Rattle.in_place.proofs.Held.{taken_out}
use Rattle.records.specs.Layout.{retirement_at}
use Rattle.records.proofs.Whole.{whole_got}
use Rattle.trace.specs.TraceTurns.{turned, turn_of}
use Rattle.trace.proofs.running.run_checked.Goals as goal

pub returns-then-whole_at-clause-window_after : goal.returns-then-whole_at-clause-window_after
unfolding stepped_by
returns-then-whole_at-clause-window_after c =
    let p = c.args.decoded.now.profile in
    let l = lent c.args.tags.now c.args.state.now c.args.window.now in
    ap (λ (x : Paid).
    turned (record { next = c.args.at + 20; paid = Some (record { cost = x.cost; answer = x.answer }) }) x.lent)
    (taken_out p l (retirement_at c.args.trace.now c.args.at) c.run_whole-told.ensures.window_after
    c.clocks_in-cost.ensures c.answer_in-answer.ensures)
    ∙ sym (ap (turn_of p c.args.at l)
    (whole_got c.args.trace.now c.args.at (sym c.whole_at.ensures ∙ c.if-whole_at.true) c.requires.unrefused))
