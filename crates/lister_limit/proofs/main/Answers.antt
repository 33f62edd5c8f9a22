-- The first 65,536 bytes of 65,537 are 65,536.
use Rattle.std.proofs.Common.{arith, sym}
use Rattle.std.proofs.lemmas.List.{length-take-le}
use Rattle.lister_limit.proofs.main.Goals as goal

pub slice_bounds-list-end : goal.slice_bounds-list-end
slice_bounds-list-end c = sym (length-take-le 65536 c.breaks-bytes.result (omega (arith, c.breaks-bytes.type_inv)))
