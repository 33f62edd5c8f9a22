-- `retire_branch`: the cache is asked, the window shut, and the branch charged by the answer.
use mathlib.Core.Path.{ap, ap₂, ◌∙◌}
use mathlib.Core.Bool.{Bool}
use Rattle.class_word.specs.Word.{has, DBCC}
use Rattle.window.specs.declared.Window.{Window}
use Rattle.cost.specs.Branch.{taken_of, branch_of}
use Rattle.in_place.specs.Lent.{lent}
use Rattle.in_place.proofs.Paying.{paid_branch}
use Rattle.in_place.proofs.points.retire_branch.Goals as goal

pub returns : goal.returns
returns c op =
    let l = lent c.args.tags.now c.args.state.now c.args.window.now in
    paid_branch l c.args.i (record { op = op; controls = c.args.k }) c.requires c.ask_told-predicted.ensures
    (c.branch_cost_060-branch.ensures
    ∙ ap₂ (λ (x y : Bool). branch_of x y c.window_at-w.result.opened c.ask_told-predicted.result) c.has.ensures c.taken-taken.ensures
    ∙ ap (λ (x : Window). branch_of (has c.args.i.word.0 DBCC) (taken_of c.args.i c.args.k) x.opened c.ask_told-predicted.result) c.window_at-w.ensures)
    c.shut_window.ensures c.told.ensures
