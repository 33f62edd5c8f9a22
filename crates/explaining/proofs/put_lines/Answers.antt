-- `put_lines`: the writing as it goes on (`Going`), record by record; the record that would be refused cannot come.
use Prim.Native.Nat.{◌^◌, ◌<◌}
use mathlib.Core.Path.{refl, ◌∙◌}
use native.Mathlib.Nat.{zero-add}
use native.Mathlib.Omega.{arith}
use borrow.Author.Rules.{rules}
use Rattle.in_place.specs.Lent.{lent}
use Rattle.explaining.proofs.Counting.{none_yet}
use Rattle.explaining.proofs.Going.{going_end, going_bad, going_index}
use Rattle.explaining.proofs.Turning.{turn_quiet, turn_room, turn_count, turn_sum, turn_line}
use Rattle.explaining.proofs.put_lines.Goals as goal

pub loop-event-init : goal.loop-event-init
loop-event-init c =
    rw (c.into_iter-event-iterator.ensures.into_iter_gives, c.events_of-event-items.ensures.at) (
      c.events_of-event-items.ensures.trace,
      record {
        few = c.requires.fits_answers;
        small = omega arith;
        slots = refl;
        low = λ n. omega (arith, none_yet n);
        same = refl;
        room = c.requires.trace_in_bounds;
        leads = refl;
        count = zero-add _;
        paid = zero-add _;
        each = λ n. rw (none_yet n) (zero-add _);
      },
    )

pub put_line-place-requires : goal.put_line-place-requires
put_line-place-requires c =
    let i = c.loop-event.invariant in
    let q = rw (i.0, c.in-Retired.is) at c.in-Some.ensures.steps.0 in
    turn_room (lent c.loop-event.tags c.loop-event.state c.loop-event.window) i.1 q
    c.explain_in_place-x.ensures

pub count_one-requires : goal.count_one-requires
count_one-requires c =
    let i = c.loop-event.invariant in
    let q = rw (i.0, c.in-Retired.is) at c.in-Some.ensures.steps.0 in
    turn_count (lent c.loop-event.tags c.loop-event.state c.loop-event.window) i.1 q
    c.explain_in_place-x.ensures

pub overflow_add-total : goal.overflow_add-total
overflow_add-total c =
    let i = c.loop-event.invariant in
    let q = rw (i.0, c.in-Retired.is) at c.in-Some.ensures.steps.0 in
    let small : c.explain_in_place-x.result.cost.0 < 2 ^ 32 = search rules in
    let l = lent c.loop-event.tags c.loop-event.state c.loop-event.window in
    record { fits = turn_sum l i.1 q c.explain_in_place-x.ensures small }

pub overflow_add-index : goal.overflow_add-index
overflow_add-index c = omega (arith, going_index c.loop-event.invariant.1)

pub loop-event-preserved-in-Retired : goal.loop-event-preserved-in-Retired
loop-event-preserved-in-Retired c =
    let i = c.loop-event.invariant in
    let q = rw (i.0, c.in-Retired.is) at c.in-Some.ensures.steps.0 in
    let small : c.explain_in_place-x.result.cost.0 < 2 ^ 32 = search rules in (
      c.in-Some.ensures.steps.2 ∙ i.0,
      turn_line (lent c.loop-event.tags c.loop-event.state c.loop-event.window) i.1 q
          c.explain_in_place-x.ensures c.put_line-place.ensures c.count_one.ensures small,
    )

pub loop-event-preserved : goal.loop-event-preserved
loop-event-preserved c =
    let i = c.loop-event.invariant in
    let q = rw i.0 at c.in-Some.ensures.steps.0 in (
      c.in-Some.ensures.steps.2 ∙ i.0,
      turn_quiet (lent c.loop-event.tags c.loop-event.state c.loop-event.window) i.1 _ _ q
          c.in_default.not-Retired c.event_at.ensures.window_after,
    )

pub returns : goal.returns
returns c =
    let i = c.loop-event.invariant in
    let q = rw i.0 at c.in-None.ensures.steps.0 in
    going_end i.1 (q (going_bad i.1))
