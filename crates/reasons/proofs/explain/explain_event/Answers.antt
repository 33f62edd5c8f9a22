-- `explain_event`: a clear by its own row.
use mathlib.Core.Path.{sym, ap, ◌∙◌}
use Rattle.in_place.specs.Lent.{lent}
use Rattle.in_place.specs.Retire.{event_at_of}
use Rattle.reasons.proofs.explain.explain_event.Goals as goal

pub returns-in-ClearedAll-clause-window_after : goal.returns-in-ClearedAll-clause-window_after
returns-in-ClearedAll-clause-window_after c =
    c.clear_all_at.ensures c.args.profile c.args.tags.now
    ∙ sym (ap (event_at_of c.args.profile (lent c.args.tags.now c.args.state.now c.args.window.now)) c.in-ClearedAll.is)

pub returns-in-ClearedUser-clause-window_after : goal.returns-in-ClearedUser-clause-window_after
returns-in-ClearedUser-clause-window_after c =
    c.clear_user_at.ensures c.args.profile c.args.tags.now
    ∙ sym (ap (event_at_of c.args.profile (lent c.args.tags.now c.args.state.now c.args.window.now)) c.in-ClearedUser.is)
