-- `put_flags`: there is room for the next, and it stands behind the others; the table is the one of the names, by a test
-- computed at every entry.
use mathlib.Core.Path.{◌≡◌, refl}
use native.Mathlib.Omega.{arith}
use Rattle.rule_text.proofs.Each.{each_room, each_on}
use Rattle.rule_text.proofs.Flags.{flag_at, flag_room, flag_put, none_room, rest_room, flags_put}
use Rattle.rule_text.proofs.Listed.{listed}
use Rattle.rule_text.proofs.words.put_flags.Goals as goal

pub put_none-place-requires : goal.put_none-place-requires
put_none-place-requires c = none_room c.args.word.0 c.args.at c.args.out.now c.requires

pub put_flag-place-requires : goal.put_flag-place-requires
put_flag-place-requires c =
    let w = c.args.word.0 in
    let rest = rest_room w c.args.at c.args.out.now c.requires c.put_none-place.ensures in
    let room = each_room (flag_at w) 9 _ _ _ c.loop-flag.invariant c.loop-flag-test.true rest in
    listed _ 9 c.loop-flag.flag-index c.loop-flag-test.true (λ k e t. rw e (flag_room w k _ _ t _ (rw e at room))) refl

pub loop-flag-preserved : goal.loop-flag-preserved
loop-flag-preserved c =
    let w = c.args.word.0 in
    let rest = rest_room w c.args.at c.args.out.now c.requires c.put_none-place.ensures in
    each_on (flag_at w) 9 _ _ _ c.loop-flag.invariant c.loop-flag-test.true rest
    (listed _ 9 c.loop-flag.flag-index c.loop-flag-test.true
    (λ k e t. rw e (flag_put w k _ _ t _ _ (rw e at c.put_flag-place.ensures))) refl)

pub returns : goal.returns
returns c =
    let done : c.loop-flag.flag-index ≡ 9 = omega arith in
    flags_put c.args.word.0 c.args.at c.args.out.now c.requires c.put_none-place.ensures
    (rw done at c.loop-flag.invariant)
