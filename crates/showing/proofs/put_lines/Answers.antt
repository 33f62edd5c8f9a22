-- `put_lines`: the writing as it goes on (`Going`), record by record; a record that would be refused cannot come.
use mathlib.Core.Path.{refl, ◌∙◌}
use Rattle.showing.proofs.Going.{going_end, going_bad, going_room, going_line}
use Rattle.showing.proofs.put_lines.Goals as goal

pub loop-at-init : goal.loop-at-init
loop-at-init c = rw (c.into_iter-at-iterator.ensures.into_iter_gives, c.events_of-at-items.ensures.at) (
  c.events_of-at-items.ensures.trace,
  record { same = refl; room = c.requires.trace_in_bounds; sound = c.requires.trace_value; leads = refl },
)

pub put_record-place-requires : goal.put_record-place-requires
put_record-place-requires c =
    let s = c.in-Some.ensures.steps in
    let i = c.loop-at.invariant in
    rw s.1 (going_room i.1 (rw i.0 at s.0))

pub loop-at-preserved : goal.loop-at-preserved
loop-at-preserved c =
    let s = c.in-Some.ensures.steps in
    let i = c.loop-at.invariant in
    (s.2 ∙ i.0, going_line i.1 (rw i.0 at s.0) (rw s.1 at c.put_record-place.ensures))

pub returns : goal.returns
returns c =
    let i = c.loop-at.invariant in
    let q = rw i.0 at c.in-None.ensures.steps.0 in
    going_end i.1 (q (going_bad i.1))
