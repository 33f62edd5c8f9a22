-- `put_lines`: the writing as it goes on (`Going`), record by record; a record that would be refused cannot come.
use mathlib.Core.Path.{refl, ◌∙◌}
use Rattle.listing.proofs.TableLines.{going_end, going_bad, going_quiet, going_cost, going_room, going_line}
use Rattle.listing.proofs.table.put_lines.Goals as goal

pub loop-event-init : goal.loop-event-init
loop-event-init c = rw (c.into_iter-event-iterator.ensures.into_iter_gives, c.events_of-event-items.ensures.at) (
  c.events_of-event-items.ensures.trace,
  record { same = refl; room = c.requires.trace_in_bounds; fits = c.requires.fits; leads = refl },
)

pub u32_at-clocks-requires : goal.u32_at-clocks-requires
u32_at-clocks-requires c =
    let i = c.loop-event.invariant in
    going_cost i.1 (rw (i.0, c.in-Retired.is) at c.in-Some.ensures.steps.0)

pub put_line-place-requires : goal.put_line-place-requires
put_line-place-requires c =
    let i = c.loop-event.invariant in
    rw c.u32_at-clocks.ensures (going_room i.1 (rw (i.0, c.in-Retired.is) at c.in-Some.ensures.steps.0))

pub loop-event-preserved-in-Retired : goal.loop-event-preserved-in-Retired
loop-event-preserved-in-Retired c =
    let s = c.in-Some.ensures.steps in
    let i = c.loop-event.invariant in (
      s.2 ∙ i.0,
      going_line i.1 (rw (i.0, c.in-Retired.is) at s.0) (rw (← c.u32_at-clocks.ensures) c.put_line-place.ensures),
    )

pub loop-event-preserved : goal.loop-event-preserved
loop-event-preserved c =
    let s = c.in-Some.ensures.steps in
    let i = c.loop-event.invariant in
    (s.2 ∙ i.0, going_quiet i.1 _ _ (rw i.0 at s.0) c.in_default.not-Retired)

pub returns : goal.returns
returns c =
    let i = c.loop-event.invariant in
    let q = rw i.0 at c.in-None.ensures.steps.0 in
    going_end i.1 (q (going_bad i.1))
