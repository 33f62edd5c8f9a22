-- `both_addresses`: two shifted ones are the two registers.
use mathlib.Core.Path.{ap}
use Prim.Native.Nat.{ℕ, ◌+◌}
use native.Mathlib.Omega.{arith}
use Rattle.bits.specs.Fields.{reg_of, dst_reg_of}
use Rattle.masks.specs.Registers.{A}
use Rattle.masks.proofs.RegistersLaws.{mask_only, mask_or}
use Rattle.profile.proofs.mending.both_addresses.Goals as goal

pub returns : goal.returns
returns c =
    mask_or (A (dst_reg_of c.args.op)) (A (reg_of c.args.op))
    (mask_only (8 + dst_reg_of c.args.op) (ap (λ (n : ℕ). 8 + n) c.dst_reg_of.ensures) (omega arith))
    (mask_only (8 + reg_of c.args.op) (ap (λ (n : ℕ). 8 + n) c.reg_of.ensures) (omega arith))
