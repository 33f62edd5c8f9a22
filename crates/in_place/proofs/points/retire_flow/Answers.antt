-- `retire_flow`: the window is shut, and the flow charged.
use mathlib.Core.Path.{◌∙◌}
use Rattle.in_place.specs.Lent.{lent}
use Rattle.in_place.proofs.Paying.{paid_flow}
use Rattle.in_place.proofs.points.retire_flow.Goals as goal

pub returns : goal.returns
returns c i other op ts bs = paid_flow (lent ts bs c.args.window.now) i (record { op = op; controls = c.args.k }) other c.requires c.shut_window.ensures (c.told.ensures.0 ∙ c.flow_cost-flow.ensures, c.told.ensures.1)
