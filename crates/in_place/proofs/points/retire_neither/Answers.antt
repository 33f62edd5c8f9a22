-- `retire_neither`: the window by whether the instruction becomes the head.
use mathlib.Core.Path.{◌≡◌, ap, ◌∙◌}
use Rattle.window.specs.declared.Window.{Window}
use Rattle.cost.specs.declared.branch.Answer.TheVariants.{NotConsulted}
use Rattle.cost.specs.Retiring.{neither, other_point}
use Rattle.cost.specs.Cost.{charged_by}
use Rattle.state.specs.declared.Retirement.{Retirement}
use Rattle.in_place.specs.WindowNumbers.{window_at}
use Rattle.in_place.specs.Lent.{Lent, lent}
use Rattle.in_place.proofs.Paying.{charged_neither, paid_open, paid_shut}
use Rattle.in_place.proofs.points.retire_neither.Goals as goal
use Rattle.in_place.proofs.points.retire_neither.Goals.{then-charged, else-charged}

pub returns : goal.returns
returns c ts bs =
    let i = c.args.i in
    let k = c.args.k in
    let l : Lent = lent ts bs c.args.window.now in
    let r : Retirement = record { op = c.args.op; controls = k } in
    let e : c.charge_neither-charged.result ≡ charged_by (other_point k) i k (window_at c.args.window.now) NotConsulted =
    c.charge_neither-charged.ensures ∙ ap (λ (x : Window). charged_by neither i k x NotConsulted) c.window_at-w.ensures ∙ charged_neither i k (window_at c.args.window.now) c.requires.1 in
    (elim c.if-charged.branch [
      | then-charged w ↦ paid_open l i r c.requires.0 e w.if-charged.true (w.window-is ∙ w.put_head.ensures) c.told.ensures
      | else-charged w ↦ paid_shut l i r c.requires.0 e w.if-charged.false (w.window-is ∙ w.shut_window.ensures) c.told.ensures
    ])
