-- `whole_at`: the bytes are there, and the head is compared as one number.
use mathlib.Core.Path.{ap, ◌∙◌}
use Prim.Native.Nat.{ℕ}
use native.Mathlib.Omega.{arith}
use lib.Dec.{eqb}
use Rattle.records.proofs.Whole.{head_is_lem}
use Rattle.records.proofs.record.whole_at.Goals as goal

pub returns : goal.returns
returns c =
    ap (λ (n : ℕ). eqb n 65552) c.u32_at.ensures
    ∙ head_is_lem c.args.trace.now c.args.at (λ i. (c.type_inv.trace i).fits) (omega arith)
