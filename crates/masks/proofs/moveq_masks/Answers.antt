-- `masks::moveq_masks`: a shifted 1 is the register of bits 9 to 11.
use native.Mathlib.Omega.{arith}
use Rattle.bits.specs.Fields.{dst_reg_of}
use Rattle.masks.specs.Masks.{moveq_sets}
use Rattle.masks.proofs.RegistersLaws.{mask_none, mask_only}
use Rattle.masks.proofs.Sets.{pair}
use Rattle.masks.proofs.moveq_masks.Goals as goal

pub returns : goal.returns
returns c = pair (moveq_sets c.args.op) mask_none (mask_only (dst_reg_of c.args.op) c.dst_reg_of-dn.ensures (omega arith))
