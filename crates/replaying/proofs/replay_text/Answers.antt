-- `replay_text`: the text lies within the lent bytes.
use mathlib.Core.Path.{◌≡◌}
use native.Mathlib.Omega.{arith}
use lib.ListN.{length}
use borrow.Author.Rules.{rules}
use Rattle.text.proofs.Writing.{wrote, written_within}
use Rattle.replaying.proofs.replay_text.Goals as goal

pub returns-clause-upper_bound : goal.returns-clause-upper_bound
returns-clause-upper_bound c =
    let e = c.replay_parts.ensures in
    let same : length c.replay_parts.new.out ≡ length c.args.text.now = search rules in
    let room = written_within _ 0 _ (omega arith) e same in
    omega (arith, (wrote _ 0 _ room e).place)
