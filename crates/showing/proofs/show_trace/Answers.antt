-- `show_trace`: the refusal's line, or the whole text, by the verdict; either lies within the lent bytes.
use mathlib.Core.Path.{sym, ◌∙◌}
use native.Mathlib.Omega.{arith}
use Rattle.showing.specs.Showing.{shown_of}
use Rattle.showing.proofs.Shown.{shown_refused, shown_sound, shown_room, shown_whole, within}
use Rattle.showing.proofs.show_trace.Goals as goal

pub put_shown-requires : goal.put_shown-requires
put_shown-requires c =
    let v = sym c.judge_short.ensures ∙ c.in-Ok.is in
    (record { trace_value = shown_sound _ v; trace_in_bounds = omega (arith, shown_room _ v, c.well_formed) })

pub returns-in-Err : goal.returns-in-Err
returns-in-Err c =
    let said = shown_refused c.args.trace.now (sym c.judge_short.ensures ∙ c.in-Err.is) in
    let e = rw (← said) at c.put_refusal.ensures in
    (record { text_after = e; upper_bound = within c.args.text.now (shown_of c.args.trace.now) e c.put_refusal.auto.out })

pub returns-in-Ok : goal.returns-in-Ok
returns-in-Ok c =
    let e = rw (shown_whole c.args.trace.now (sym c.judge_short.ensures ∙ c.in-Ok.is)) at c.put_shown.ensures in
    (record { text_after = e; upper_bound = within c.args.text.now (shown_of c.args.trace.now) e c.put_shown.auto.out })
