-- `other_060`: the window by whether the instruction becomes the head.
use mathlib.Core.Path.{ap, ◌∙◌}
use Rattle.window.specs.declared.Window.{Window}
use Rattle.cost.specs.declared.branch.Answer.TheVariants.{NotConsulted}
use Rattle.state.proofs.Stepping.{left, stepped_open, stepped_shut}
use Rattle.step.proofs.other_060.Goals as goal
use Rattle.step.proofs.other_060.Goals.{then-charged, else-charged}

pub returns : goal.returns
returns c =
    let n = c.charge_other-charged.result.cost in
    (elim c.if-charged.branch [
      | then-charged w ↦ ap (λ (v : Window). left c.args.timing.cache v n NotConsulted) (w.timing-is ∙ w.as_head-timing.ensures)
          ∙ stepped_open c.args.timing c.args.i c.args.r c.requires c.charge_other-charged.ensures w.if-charged.true
      | else-charged w ↦ ap (λ (v : Window). left c.args.timing.cache v n NotConsulted) (w.timing-is ∙ w.shut-timing.ensures)
          ∙ stepped_shut c.args.timing c.args.i c.args.r c.requires c.charge_other-charged.ensures w.if-charged.false
    ])
