-- `explain_records`: the run as it goes on, and its reasons (`Both`), event by event, from the window as it is read.
use mathlib.Core.Path.{sym, ap₂, ◌∙◌}
use borrow.Author.Rules.{rules}
use Rattle.little_endian.proofs.Loops.{set_puts}
use Rattle.cost.specs.Branch.{answer_number}
use Rattle.in_place.specs.Lent.{lent, state_at}
use Rattle.in_place.specs.WindowNumbers.{window_at}
use Rattle.refusals.specs.Runs.{runs}
use Rattle.records.specs.Trace.{read_trace}
use Rattle.trace.proofs.Going.{going_end, going_bad}
use Rattle.trace.proofs.Starting.{seen_start, outcome_seen}
use Rattle.reasons.specs.ExplainRun.{explain_outcome}
use Rattle.reasons.specs.Reasons.{reason_number}
use Rattle.reasons.proofs.Telling.{telling_end, reasons_seen}
use Rattle.reasons.proofs.Turns.{both_quiet, both_room, both_told}
use Rattle.reasons.proofs.explain_records.Goals as goal

pub put_u32-requires : goal.put_u32-requires
put_u32-requires c =
    let i = c.loop-event.invariant in
    (both_room (lent c.loop-event.tags c.loop-event.state c.loop-event.window) i.1 _ _
    (rw i.0 at c.in-Some.ensures.steps.0) (sym c.explain_event.ensures.told ∙ c.in-Some-explain_event.is)).0

pub bounds-answers-count : goal.bounds-answers-count
bounds-answers-count c =
    let i = c.loop-event.invariant in
    (both_room (lent c.loop-event.tags c.loop-event.state c.loop-event.window) i.1 _ _
    (rw i.0 at c.in-Some.ensures.steps.0) (sym c.explain_event.ensures.told ∙ c.in-Some-explain_event.is)).1

pub bounds-reasons-count : goal.bounds-reasons-count
bounds-reasons-count c =
    let i = c.loop-event.invariant in
    (both_room (lent c.loop-event.tags c.loop-event.state c.loop-event.window) i.1 _ _
    (rw i.0 at c.in-Some.ensures.steps.0) (sym c.explain_event.ensures.told ∙ c.in-Some-explain_event.is)).2

pub loop-event-preserved-in-Some-explain_event : goal.loop-event-preserved-in-Some-explain_event
loop-event-preserved-in-Some-explain_event c =
    let l = lent c.loop-event.tags c.loop-event.state c.loop-event.window in
    let i = c.loop-event.invariant in
    let s = c.in-Some.ensures.steps in
    let q = rw i.0 at s.0 in
    let told = c.in-Some-explain_event.told in
    let h = sym c.explain_event.ensures.told ∙ c.in-Some-explain_event.is in
    let room = both_room l i.1 _ _ q h in (
      s.2 ∙ i.0,
      rw (
        c.put_u32.ensures,
        c.from.ensures,
        c.from-in-Some-explain_event.ensures,
        set_puts c.loop-event.answers c.loop-event.count (answer_number told.answer) room.1,
        set_puts c.loop-event.reasons c.loop-event.count (reason_number told.reason) room.2,
      )
          (both_told l i.1 _ _ q h c.explain_event.ensures.window_after (search rules)),
    )

pub loop-event-preserved : goal.loop-event-preserved
loop-event-preserved c =
    let i = c.loop-event.invariant in
    let s = c.in-Some.ensures.steps in (
      s.2 ∙ i.0,
      both_quiet (lent c.loop-event.tags c.loop-event.state c.loop-event.window) i.1 _ _ (rw i.0 at s.0)
          (sym c.explain_event.ensures.told ∙ c.in_default.is) c.explain_event.ensures.window_after,
    )

pub returns : goal.returns
returns c =
    let t = state_at (lent c.args.tags.now c.args.state.now c.args.window.now) in
    let i = c.loop-event.invariant in
    let q = rw i.0 at c.in-None.ensures.steps.0 in
    let end = q (going_bad i.1.going) in
    let u = seen_start c.args.tags.now c.args.state.now (window_at c.args.window.now) c.see_window.ensures in
    ap₂ explain_outcome
    (going_end i.1.going end
    ∙ outcome_seen c.args.profile (read_trace c.args.trace.now) (runs c.args.costs.now c.args.answers.now) t u)
    (telling_end i.1.telling end
    ∙ reasons_seen c.args.profile (read_trace c.args.trace.now) c.args.reasons.now t u)
