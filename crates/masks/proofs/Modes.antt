-- Selections by comparisons of the mode are the definition's rows: each mode by itself, and those above 6 as one.
-- Assumes nothing.
use mathlib.Core.Path.{◌≡◌}
use mathlib.Core.Bool.{cond, false}
use Prim.Native.Nat.{ℕ, zero, suc, ◌+◌, ◌<◌, ◌≤◌}
use native.Mathlib.Omega.{arith}
use lib.Dec.{eqb, ltb}
use borrow.Author.Tests.{ne_eqb, le-ltb}
use Rattle.masks.specs.declared.registers.RegMasks060.{RegMasks060}
use Rattle.masks.specs.Registers.{register, D, A, none, all, mask_of_regs}
use Rattle.masks.specs.Operands.{uses◌defines◌, operand_sets, register_operand, mask_pair}
use Rattle.masks.proofs.RegistersLaws.{mask_none, mask_all}
use Rattle.masks.proofs.Sets.{pair}

by_mode : (P : ℕ → Type 0) → P 0 → P 1 → P 2 → P 3 → P 4 → P 5 → P 6 → ((m : ℕ) → 7 ≤ m → P m) → (m : ℕ) → P m
by_mode P p0 p1 p2 p3 p4 p5 p6 more zero = p0
by_mode P p0 p1 p2 p3 p4 p5 p6 more (suc zero) = p1
by_mode P p0 p1 p2 p3 p4 p5 p6 more (suc (suc zero)) = p2
by_mode P p0 p1 p2 p3 p4 p5 p6 more (suc (suc (suc zero))) = p3
by_mode P p0 p1 p2 p3 p4 p5 p6 more (suc (suc (suc (suc zero)))) = p4
by_mode P p0 p1 p2 p3 p4 p5 p6 more (suc (suc (suc (suc (suc zero))))) = p5
by_mode P p0 p1 p2 p3 p4 p5 p6 more (suc (suc (suc (suc (suc (suc zero)))))) = p6
by_mode P p0 p1 p2 p3 p4 p5 p6 more (suc (suc (suc (suc (suc (suc (suc n))))))) = more (suc (suc (suc (suc (suc (suc (suc n))))))) (omega arith)

-- the masks that the code selects for a mode whose register has the mask own
abbrev selected : ℕ → ℕ → RegMasks060
selected own mode = record { uses = cond (ltb mode 6) own (cond (ltb mode 7) 65535 0); defs = cond (ltb mode 3) 0 (cond (ltb mode 5) own 0) }

above : (own reg mode : ℕ) → 7 ≤ mode → selected own mode ≡ mask_pair (operand_sets mode reg)
unfolding operand_sets
above own reg mode h =
    let no : (n : ℕ) → n < 7 → eqb mode n ≡ false = λ n k. ne_eqb mode n (λ (e : mode ≡ n). omega arith) in
    let over : (n : ℕ) → n ≤ 7 → ltb mode n ≡ false = λ n k. le-ltb mode n (omega arith) in
    rw (over 6 (omega arith), over 7 (omega arith), over 3 (omega arith), over 5 (omega arith), no 0 (omega arith), no 1 (omega arith), no 2 (omega arith), no 5 (omega arith), no 3 (omega arith), no 4 (omega arith), no 6 (omega arith))
    (pair (uses none defines none) mask_none mask_none)

pub mode_masks : (mode reg : ℕ) {own i u e d : ℕ} → own ≡ mask_of_regs (register (cond (ltb mode 1) reg (8 + reg)))
    → i ≡ cond (ltb mode 7) 65535 0 → u ≡ cond (ltb mode 6) own i → e ≡ cond (ltb mode 5) own 0 → d ≡ cond (ltb mode 3) 0 e
    → ◌≡◌ {A = RegMasks060} (record { uses = u; defs = d }) (mask_pair (operand_sets mode reg))
unfolding operand_sets
mode_masks mode reg {own} ho hi hu he hd =
    rw (hu, hi, hd, he)
    (by_mode (λ (m : ℕ). own ≡ mask_of_regs (register (cond (ltb m 1) reg (8 + reg))) → selected own m ≡ mask_pair (operand_sets m reg))
    (λ o. pair (uses D reg defines none) o mask_none)
    (λ o. pair (uses A reg defines none) o mask_none)
    (λ o. pair (uses A reg defines none) o mask_none)
    (λ o. pair (uses A reg defines A reg) o o)
    (λ o. pair (uses A reg defines A reg) o o)
    (λ o. pair (uses A reg defines none) o mask_none)
    (λ o. pair (uses all defines none) mask_all mask_none)
    (λ m l o. above own reg m l)
    mode ho)

pub mode_register : (mode reg : ℕ) {own d : ℕ} → own ≡ mask_of_regs (register (cond (ltb mode 1) reg (8 + reg))) → d ≡ cond (ltb mode 2) own 0 → d ≡ mask_of_regs (register_operand mode reg)
unfolding register_operand
mode_register zero reg ho hd = rw hd ho
mode_register (suc zero) reg ho hd = rw hd ho
mode_register (suc (suc n)) reg ho hd =
    let m = suc (suc n) in
    let no : (k : ℕ) → k < 2 → eqb m k ≡ false = λ k l. ne_eqb m k (λ (e : m ≡ k). omega arith) in
    rw (hd, le-ltb m 2 (omega arith), no 0 (omega arith), no 1 (omega arith)) mask_none
