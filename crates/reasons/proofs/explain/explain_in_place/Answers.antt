-- `explain_in_place`: the step, what it hands back taken apart, and the reason by what was met.
use Rattle.in_place.specs.Lent.{lent}
use Rattle.reasons.proofs.Explaining.{explained_so}
use Rattle.reasons.proofs.explain.explain_in_place.Goals as goal

pub returns : goal.returns
returns c =
    explained_so c.args.profile (lent c.args.tags.now c.args.state.now c.args.window.now) c.args.r
    c.looked_up-i.ensures c.window_at-met.ensures _ c.retire_in_place-told.ensures
    c.clocks_in-cost.ensures c.answer_in.ensures c.from-answer.ensures c.reason_of-reason.ensures
    c.shared-registers.ensures
