-- `timing_060_run_batch_at`: the batch of words.
use Rattle.host.proofs.timing_060_run_batch_at.Goals as goal

pub returns : goal.returns
returns c = c.run_batch_at.ensures
