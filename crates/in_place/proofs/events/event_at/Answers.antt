-- `event_at`: the two clears are promised for any profile and tags.
use mathlib.Core.Path.{sym, ap, ◌∙◌}
use Rattle.in_place.specs.Lent.{lent}
use Rattle.in_place.specs.Retire.{event_at_of}
use Rattle.in_place.proofs.events.event_at.Goals as goal

pub returns-in-ClearedAll-clause-window_after : goal.returns-in-ClearedAll-clause-window_after
returns-in-ClearedAll-clause-window_after c =
    c.clear_all_at.ensures c.args.profile c.args.tags.now ∙ ap (event_at_of c.args.profile (lent c.args.tags.now c.args.state.now c.args.window.now)) (sym c.in-ClearedAll.is)

pub returns-in-ClearedUser-clause-window_after : goal.returns-in-ClearedUser-clause-window_after
returns-in-ClearedUser-clause-window_after c =
    c.clear_user_at.ensures c.args.profile c.args.tags.now ∙ ap (event_at_of c.args.profile (lent c.args.tags.now c.args.state.now c.args.window.now)) (sym c.in-ClearedUser.is)
