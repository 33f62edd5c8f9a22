-- `put_each`: there is room for the next, and it stands behind the others; the reasons are in the order of the table.
use Rattle.std.proofs.Common.{rules, ◌≡◌, length}
use native.Mathlib.Omega.{arith}
use mathlib.Core.Path.{sym, ap, ◌∙◌}
use mathlib.Core.Logic.{inl, inr}
use lib.ListN.{length-append}
use Rattle.std.proofs.lemmas.List.{length-drop}
use Rattle.rule_text.proofs.Each.{each, each_room, each_on}
use Rattle.reasons.specs.Reasons.{reasons}
use Rattle.explaining.specs.Inner.{count_text}
use Rattle.explaining.proofs.Counting.{next_within, next_rest, next_line}
use Rattle.explaining.proofs.counts.put_each.Goals as goal

pub loop-reason-init : goal.loop-reason-init
loop-reason-init c = (search (rules, each), omega arith, search rules, search rules)

pub put_count-place-requires : goal.put_count-place-requires
put_count-place-requires c =
    let k = length c.loop-reason.yielded in
    let e = sym c.loop-reason.invariant.2 ∙ c.in-Some.ensures.steps.0 in
    let f = sym c.loop-reason.invariant.3 ∙ c.in-Some.ensures.steps.1 in
    rw (← next_line c.args.counts.now k e f)
    (each_room (count_text c.args.counts.now) 14 _ _ _ c.loop-reason.invariant.0 (next_within reasons k e) c.requires)

pub loop-reason-preserved : goal.loop-reason-preserved
loop-reason-preserved c =
    let k = length c.loop-reason.yielded in
    let e = sym c.loop-reason.invariant.2 ∙ c.in-Some.ensures.steps.0 in
    let f = sym c.loop-reason.invariant.3 ∙ c.in-Some.ensures.steps.1 in
    let h = next_within reasons k e in
    rw (length-append c.loop-reason.yielded _) (
      each_on (count_text c.args.counts.now) 14 _ _ _ c.loop-reason.invariant.0 h c.requires
          (rw (next_line c.args.counts.now k e f) c.put_count-place.ensures),
      omega (arith, h),
      next_rest reasons k e,
      next_rest c.args.counts.now k f,
    )

pub returns : goal.returns
returns c =
    let k = length c.loop-reason.yielded in
    let p = length-drop k reasons in
    let q = length-drop k c.args.counts.now in
    let done : k ≡ 14 = elim c.in-None.ensures.steps [
      | inl e ↦ omega (arith, e.1.0, ap length c.loop-reason.invariant.2, p, c.loop-reason.invariant.1)
      | inr e ↦ omega (arith, e.1.0, ap length c.loop-reason.invariant.3, q, c.loop-reason.invariant.1, c.told-counts)
    ] in
    rw done at c.loop-reason.invariant.0
