-- Selections by the opmode are the definition's rows, each opmode by itself.
-- Assumes nothing.
use mathlib.Core.Path.{◌≡◌, ◌∙◌}
use mathlib.Core.Bool.{cond, ◌||◌}
use Prim.Native.Nat.{ℕ, zero, suc, ◌<◌}
use native.Mathlib.Omega.{arith}
use lib.Bits.{bit_and, bit_or}
use lib.Dec.{eqb, leb, ltb}
use Rattle.bits.specs.Rows.{Rows, otherwise, ◌⇒◌⨾◌, first}
use Rattle.masks.specs.declared.registers.RegMasks060.{RegMasks060}
use Rattle.masks.specs.Registers.{D, A, union, mask_of_regs}
use Rattle.masks.specs.Operands.{Sets, uses◌defines◌, mask_pair}
use Rattle.masks.proofs.RegistersLaws.{mask_or, mask_or_swap, mask_or_none}
use Rattle.masks.proofs.Sets.{pair}

-- the definition's rows for an operand's sets s, a register r and an opmode m
abbrev pub rows_by : Sets → ℕ → ℕ → Rows Sets
rows_by s r m =
    leb m 2 ⇒ (uses union s.uses (D r) defines union s.defs (D r)) ⨾
    eqb m 3 || eqb m 7 ⇒ (uses union s.uses (A r) defines union s.defs (A r)) ⨾
    otherwise (uses union (D r) s.uses defines s.defs)

module _ (s : Sets) (r : ℕ) {u v a d : ℕ} (hu : u ≡ mask_of_regs s.uses) (hv : v ≡ mask_of_regs s.defs) (ha : a ≡ mask_of_regs (A r)) (hd : d ≡ mask_of_regs (D r)) where
  abbrev both : ℕ → ℕ → RegMasks060
  both own defined = record { uses = bit_or u own; defs = bit_or v defined }

  data_both : {own f : ℕ} → own ≡ d → f ≡ own → both own f ≡ mask_pair (uses union s.uses (D r) defines union s.defs (D r))
  data_both o e = pair (uses union s.uses (D r) defines union s.defs (D r)) (mask_or s.uses (D r) hu (o ∙ hd)) (mask_or s.defs (D r) hv (e ∙ o ∙ hd))

  address_both : {own f : ℕ} → own ≡ a → f ≡ own → both own f ≡ mask_pair (uses union s.uses (A r) defines union s.defs (A r))
  address_both o e = pair (uses union s.uses (A r) defines union s.defs (A r)) (mask_or s.uses (A r) hu (o ∙ ha)) (mask_or s.defs (A r) hv (e ∙ o ∙ ha))

  data_uses : {own f : ℕ} → own ≡ d → f ≡ 0 → both own f ≡ mask_pair (uses union (D r) s.uses defines s.defs)
  data_uses o e = pair (uses union (D r) s.uses defines s.defs) (mask_or_swap (D r) s.uses (o ∙ hd) hu) (rw e (mask_or_none s.defs hv))

  pub opmode_masks : (m : ℕ) {own k f : ℕ} → m < 8 → own ≡ cond (eqb (bit_and m 3) 3) a d → k ≡ cond (ltb m 7) 0 own → f ≡ cond (ltb m 4) own k
      → both own f ≡ mask_pair (first (rows_by s r m))
  opmode_masks zero h o k f = data_both o f
  opmode_masks (suc zero) h o k f = data_both o f
  opmode_masks (suc (suc zero)) h o k f = data_both o f
  opmode_masks (suc (suc (suc zero))) h o k f = address_both o f
  opmode_masks (suc (suc (suc (suc zero)))) h o k f = data_uses o (f ∙ k)
  opmode_masks (suc (suc (suc (suc (suc zero))))) h o k f = data_uses o (f ∙ k)
  opmode_masks (suc (suc (suc (suc (suc (suc zero)))))) h o k f = data_uses o (f ∙ k)
  opmode_masks (suc (suc (suc (suc (suc (suc (suc zero))))))) h o k f = address_both o (f ∙ k)
  opmode_masks (suc (suc (suc (suc (suc (suc (suc (suc n)))))))) h o k f = absurd (omega arith)
