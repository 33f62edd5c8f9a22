-- `BranchCache060::clear_user`: the bytes before the turn are cleared by the definition's rule, the rest are as they were.
use Rattle.std.proofs.Common.{◌≡◌, map}
use Rattle.bits.proofs.Filling.{filled}
use Rattle.branch_cache.specs.Cache.{clear_user_byte_of}
use Rattle.branch_cache.proofs.BranchCache060.clear_user.Given as goal

abbrev pub invariant-loop-byte : goal.invariant-loop-byte
invariant-loop-byte l = l.byte-items ≡ filled l.byte-index (map clear_user_byte_of l.fn.self.state) l.fn.self.state
