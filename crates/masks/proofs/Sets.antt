-- Two masks are the pair of the sets that they stand for, with one more register used or defined, or with one that is there on a condition.
-- Assumes nothing.
use mathlib.Core.Path.{◌≡◌, ap, ap₂}
use mathlib.Core.Bool.{Bool, true, false, cond}
use Prim.Native.Nat.{ℕ}
use lib.Bits.{bit_or}
use Rattle.masks.specs.declared.registers.RegMasks060.{RegMasks060}
use Rattle.masks.specs.Registers.{Regs, none, union, mask_of_regs}
use Rattle.masks.specs.Operands.{Sets, uses◌defines◌, mask_pair}
use Rattle.masks.proofs.RegistersLaws.{mask_or, mask_none}

pub pair : (s : Sets) {u d : ℕ} → u ≡ mask_of_regs s.uses → d ≡ mask_of_regs s.defs → ◌≡◌ {A = RegMasks060} (record { uses = u; defs = d }) (mask_pair s)
pair s p q = ap₂ (λ (u d : ℕ). record { uses = u; defs = d }) p q

pub pair_uses : (s : Sets) {r : RegMasks060} → r ≡ mask_pair s → r.uses ≡ mask_of_regs s.uses
pair_uses s h = ap (λ (r : RegMasks060). r.uses) h

pub pair_defs : (s : Sets) {r : RegMasks060} → r ≡ mask_pair s → r.defs ≡ mask_of_regs s.defs
pair_defs s h = ap (λ (r : RegMasks060). r.defs) h

pub pair_and_defs : (s : Sets) (x : Regs) {r : RegMasks060} {a : ℕ} → r ≡ mask_pair s → a ≡ mask_of_regs x
    → ◌≡◌ {A = RegMasks060} (record { uses = r.uses; defs = bit_or r.defs a }) (mask_pair (uses s.uses defines union s.defs x))
pair_and_defs s x h k = pair (uses s.uses defines union s.defs x) (pair_uses s h) (mask_or s.defs x (pair_defs s h) k)

pub pair_and_both : (s : Sets) (x : Regs) {r : RegMasks060} {a : ℕ} → r ≡ mask_pair s → a ≡ mask_of_regs x
    → ◌≡◌ {A = RegMasks060} (record { uses = bit_or r.uses a; defs = bit_or r.defs a }) (mask_pair (uses union s.uses x defines union s.defs x))
pair_and_both s x h k = pair (uses union s.uses x defines union s.defs x) (mask_or s.uses x (pair_uses s h) k) (mask_or s.defs x (pair_defs s h) k)

pub mask_where : (t : Bool) (s : Regs) {a : ℕ} → t ≡ true → a ≡ mask_of_regs s → a ≡ mask_of_regs (cond t s none)
mask_where t s h p = rw h p

pub mask_unless : (t : Bool) (s : Regs) → t ≡ false → 0 ≡ mask_of_regs (cond t s none)
mask_unless t s h = rw h mask_none
