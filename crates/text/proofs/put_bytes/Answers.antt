-- `put_bytes`: the bytes stand between those before the place and those behind them.
use Rattle.text.proofs.Writing.{put_whole}
use Rattle.text.proofs.put_bytes.Goals as goal

pub returns : goal.returns
returns c = rw c.copy_from_slice.ensures.after (put_whole c.args.out.now c.args.at c.args.s.now)
