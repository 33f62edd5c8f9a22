-- `Decoded::new`: zeros say nothing.
use Rattle.in_place.proofs.Entries.{known_none}
use Rattle.in_place.proofs.decoded.Decoded.new.Goals as goal

pub invariant_of-result : goal.invariant_of-result
invariant_of-result c = record { known = known_none c.args.profile 1024 }
