-- `replay_from`: a refusal is all of the text; else the image of the next state follows.
use native.Mathlib.Omega.{arith}
use borrow.Author.Rules.{rules}
use Rattle.listing.specs.Listing.{short_trace_of}
use Rattle.replaying.proofs.Replaying.{shown_refused, replay_room, replay_shown}
use Rattle.replaying.proofs.replay_from.Goals as goal

pub put_state-requires : goal.put_state-requires
put_state-requires c =
    let r = replay_room _ _ _ _ c.list_into-listed.ensures c.in-Ok.is in
    omega (arith, c.list_into-listed.auto.out)

pub returns-in-Err : goal.returns-in-Err
returns-in-Err c = shown_refused c.args.profile (short_trace_of c.args.trace.now) c.args.out.now c.args.timing c.list_into-listed.ensures c.in-Err.is

pub returns-in-Ok : goal.returns-in-Ok
returns-in-Ok c =
    replay_shown _ _ _ _ c.list_into-listed.ensures c.in-Ok.is (search rules) (search rules) (search rules) c.put_state.ensures
