-- `groups::group4_masks`: LEA's row, the row of the forms with one operand, and the rest.
use mathlib.Core.Path.{◌≡◌, refl, sym, ap, ◌∙◌}
use mathlib.Core.Bool.{◌||◌}
use Prim.Native.Nat.{ℕ, ◌+◌, ◌/◌, ◌%◌, ◌<◌, ◌≤◌}
use native.Mathlib.Omega.{arith}
use lib.Bits.{bit_and, and_high}
use lib.Dec.{eqb, ltb}
use borrow.Author.Tests.{eq-eqb, ne_eqb, lt-ltb, le-ltb}
use Rattle.bits.specs.Fields.{mode_of, reg_of, dst_reg_of}
use Rattle.bits.specs.Pattern.{matches}
use Rattle.bits.proofs.Patterns.{masked, hit, miss}
use Rattle.bits.proofs.Rows.{Left, begin, skip, found, last}
use Rattle.masks.specs.Registers.{D, A, mask_of_regs}
use Rattle.bits.specs.Instructions.{lea, tst}
use Rattle.masks.specs.Operands.{uses◌defines◌, operand_sets, mask_pair}
use Rattle.masks.specs.GroupFour.{data_operand, group4_rows, group4_sets}
use Rattle.masks.proofs.RegistersLaws.{mask_only}
use Rattle.masks.proofs.Sets.{pair, pair_uses, pair_and_defs, mask_where, mask_unless}
use Rattle.masks.proofs.groups.group4_masks.Goals as goal
use Rattle.masks.proofs.groups.group4_masks.Goals.{Joined-op-lt1792, else-mode-eq0, else-op-lt1792, then-mode-eq0, then-op-lt1792}

rows : (op : ℕ) → Left (group4_sets op) (group4_rows op)
unfolding group4_sets
rows op = begin (group4_rows op)

-- the code's test of bits 8 to 11
below : (op : ℕ) → bit_and op 3840 < 1792 → ltb (bit_and op 3840) 1792 ≡ (ltb (op / 256 % 16) 7 || matches tst op)
below op h = rw (lt-ltb (op / 256 % 16) 7 (omega (arith, and_high op 4 8))) (lt-ltb (bit_and op 3840) 1792 h)

above : (op : ℕ) → 1792 ≤ bit_and op 3840 → eqb (bit_and op 3840) 2560 ≡ (ltb (op / 256 % 16) 7 || matches tst op)
above op h = rw (le-ltb (op / 256 % 16) 7 (omega (arith, and_high op 4 8))) (masked tst op)

one_operand : (c : Joined-op-lt1792) → c.if-op-lt1792.value ≡ (ltb (c.args.op / 256 % 16) 7 || matches tst c.args.op)
one_operand c =
    (elim c.if-op-lt1792.branch [ then-op-lt1792 k ↦ k.value-is ∙ below c.args.op k.if-op-lt1792.true | else-op-lt1792 k ↦ k.value-is ∙ above c.args.op k.if-op-lt1792.false ])

pub returns-then-op-eq448 : goal.returns-then-op-eq448
returns-then-op-eq448 c =
    let s = operand_sets (mode_of c.args.op) (reg_of c.args.op) in
    let n = mask_only (8 + dst_reg_of c.args.op) (ap (λ (n : ℕ). 8 + n) c.dst_reg_of-an.ensures) (omega arith) in
    pair (uses s.uses defines A (dst_reg_of c.args.op)) (pair_uses s c.operand_masks-ea.ensures) n ∙ ap mask_pair (found (rows c.args.op) (hit lea c.args.op c.if-op-eq448.true) refl)

pub returns-after-mode-eq0 : goal.returns-after-mode-eq0
returns-after-mode-eq0 c =
    let dn = D (reg_of c.args.op) in
    let is = mask_only (reg_of c.args.op) c.reg_of-reg.ensures (omega arith) in
    let def : c.if-mode-eq0.operand_def ≡ mask_of_regs (data_operand (mode_of c.args.op) (reg_of c.args.op)) =
    (elim c.if-mode-eq0.branch [ then-mode-eq0 k ↦ k.operand_def-is ∙ mask_where (eqb (mode_of c.args.op) 0) dn (eq-eqb (mode_of c.args.op) 0 (sym c.mode_of-mode.ensures ∙ k.if-mode-eq0.true)) is | else-mode-eq0 k ↦ k.operand_def-is ∙ mask_unless (eqb (mode_of c.args.op) 0) dn (ne_eqb (mode_of c.args.op) 0 (λ q. k.if-mode-eq0.false (c.mode_of-mode.ensures ∙ q))) ]) in
    pair_and_defs (operand_sets (mode_of c.args.op) (reg_of c.args.op)) (data_operand (mode_of c.args.op) (reg_of c.args.op)) c.operand_masks-ea-then-op-eq2560.ensures def
    ∙ ap mask_pair (found (skip (rows c.args.op) (miss lea c.args.op c.if-op-eq448.false)) (sym (one_operand (goal.at.returns-after-mode-eq0 c).Joined-op-lt1792) ∙ c.if-op-eq2560.true) refl)

pub returns-else-op-eq2560 : goal.returns-else-op-eq2560
returns-else-op-eq2560 c =
    c.full.ensures
    ∙ ap mask_pair (last (skip (skip (rows c.args.op) (miss lea c.args.op c.if-op-eq448.false)) (sym (one_operand (goal.at.returns-else-op-eq2560 c).Joined-op-lt1792) ∙ c.if-op-eq2560.false)) refl)
