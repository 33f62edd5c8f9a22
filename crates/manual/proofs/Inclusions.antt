-- What the manual says of the valid forms lies within the mended profile's masks: of a head what it writes, of a
-- follower that can pass the dispatch test what it reads and writes. Tested at every opcode of the seven groups that have
-- a form, computed.
-- Assumes nothing.
use Prim.Native.Nat.{ℕ, ◌+◌, ◌*◌, ◌<◌}
use native.Mathlib.Omega.{arith}
use mathlib.Core.Path.{◌≡◌, refl}
use mathlib.Core.Bool.{Bool, true, false, not, ◌&&◌, ◌||◌}
use lib.Dec.{eqb}
use borrow.Author.Tests.{eqb-true, eqb-false, ne_eqb}
use lib.Bits.{bit_or}
use Rattle.bits.specs.Below.{every_below}
use Rattle.bits.specs.Pattern.{matches}
use Rattle.bits.specs.Fields.{group_of}
use Rattle.bits.specs.Words.{bit}
use Rattle.bits.proofs.Below.{each_below, each_between}
use Rattle.bits.proofs.Bools.{and_left, and_right, implied}
use Rattle.classifier.specs.Entry.{ea}
use Rattle.classifier.specs.LowGroups.{group0, move, group5, group7}
use Rattle.classifier.specs.Group4.{group4}
use Rattle.classifier.specs.HighGroups.{group11}
use Rattle.classifier.specs.Classify.{classify_of}
use Rattle.masks.specs.Registers.{mask_of_regs}
use Rattle.masks.specs.Operands.{operand_sets, register_operand}
use Rattle.masks.specs.GroupFour.{group4_sets}
use Rattle.masks.specs.Masks.{dyadic_sets, sets_of}
use Rattle.window.specs.Dispatch.{is_simple}
use Rattle.window.specs.declared.dispatch.Instruction.{Instruction}
use Rattle.profile.specs.declared.Profile.TheVariants.{Mended}
use Rattle.profile.specs.Mending.{mended_rows}
use Rattle.profile.specs.Profile.{profile_of}
use Rattle.manual.specs.Manual.{Form, form_of}

-- each register that is in the set is in the mask
abbrev in_mask : (ℕ → Bool) → ℕ → Bool
in_mask s mask = every_below 16 (λ n. not (s n) || bit n mask)

abbrev held : Form → Instruction → Bool
held f i =
    not f.valid
    || (in_mask f.writes i.defs
    && (not (is_simple i.word.0) || in_mask (λ n. f.reads n || f.writes n) (bit_or i.uses i.defs)))

abbrev held_at : ℕ → Bool
held_at op = held (form_of op) (profile_of Mended op)

-- MOVE, of each size; EXTB; ADDQ and SUBQ; MOVEQ; EOR and CMPM: the 4,096 opcodes of a group
move_byte : every_below 4096 (λ k. held_at (1 * 4096 + k)) ≡ true
unfolding form_of mended_rows classify_of sets_of mask_of_regs matches ea is_simple group0 move group5 group7 group4 group11 operand_sets register_operand group4_sets dyadic_sets
move_byte = refl

move_long : every_below 4096 (λ k. held_at (2 * 4096 + k)) ≡ true
unfolding form_of mended_rows classify_of sets_of mask_of_regs matches ea is_simple group0 move group5 group7 group4 group11 operand_sets register_operand group4_sets dyadic_sets
move_long = refl

move_word : every_below 4096 (λ k. held_at (3 * 4096 + k)) ≡ true
unfolding form_of mended_rows classify_of sets_of mask_of_regs matches ea is_simple group0 move group5 group7 group4 group11 operand_sets register_operand group4_sets dyadic_sets
move_word = refl

extb : every_below 4096 (λ k. held_at (4 * 4096 + k)) ≡ true
unfolding form_of mended_rows classify_of sets_of mask_of_regs matches ea is_simple group0 move group5 group7 group4 group11 operand_sets register_operand group4_sets dyadic_sets
extb = refl

quick : every_below 4096 (λ k. held_at (5 * 4096 + k)) ≡ true
unfolding form_of mended_rows classify_of sets_of mask_of_regs matches ea is_simple group0 move group5 group7 group4 group11 operand_sets register_operand group4_sets dyadic_sets
quick = refl

moveq : every_below 4096 (λ k. held_at (7 * 4096 + k)) ≡ true
unfolding form_of mended_rows classify_of sets_of mask_of_regs matches ea is_simple group0 move group5 group7 group4 group11 operand_sets register_operand group4_sets dyadic_sets
moveq = refl

eor : every_below 4096 (λ k. held_at (11 * 4096 + k)) ≡ true
unfolding form_of mended_rows classify_of sets_of mask_of_regs matches ea is_simple group0 move group5 group7 group4 group11 operand_sets register_operand group4_sets dyadic_sets
eor = refl

in_group : (g op : ℕ) → group_of op ≡ g → every_below 4096 (λ k. held_at (g * 4096 + k)) ≡ true → held_at op ≡ true
in_group g op e t = each_between (g * 4096) 4096 held_at t op (omega arith) (omega arith)

-- no form of another group is valid
no_other : (op : ℕ) → (group_of op ≡ 1 → ⊥) → (group_of op ≡ 2 → ⊥) → (group_of op ≡ 3 → ⊥) → (group_of op ≡ 4 → ⊥) → (group_of op ≡ 5 → ⊥) → (group_of op ≡ 7 → ⊥) → (group_of op ≡ 11 → ⊥)
    → held_at op ≡ true
unfolding form_of
no_other op h1 h2 h3 h4 h5 h7 h11 = rw (ne_eqb (group_of op) 1 h1, ne_eqb (group_of op) 2 h2, ne_eqb (group_of op) 3 h3, ne_eqb (group_of op) 4 h4, ne_eqb (group_of op) 5 h5, ne_eqb (group_of op) 7 h7, ne_eqb (group_of op) 11 h11)

-- a number is this one, or it is not
whether_by : {R : Type 0} (n k : ℕ) (b : Bool) → eqb n k ≡ b → (n ≡ k → R) → ((n ≡ k → ⊥) → R) → R
whether_by n k true e is else = is (eqb-true n k e)
whether_by n k false e is else = else (eqb-false n k e)

whether : {R : Type 0} (n k : ℕ) → (n ≡ k → R) → ((n ≡ k → ⊥) → R) → R
whether n k is else = whether_by n k (eqb n k) refl is else

all_held : (op : ℕ) → held_at op ≡ true
all_held op =
    let g = group_of op in
    whether g 1 (λ e. in_group 1 op e move_byte) (λ h1.
    whether g 2 (λ e. in_group 2 op e move_long) (λ h2.
    whether g 3 (λ e. in_group 3 op e move_word) (λ h3.
    whether g 4 (λ e. in_group 4 op e extb) (λ h4.
    whether g 5 (λ e. in_group 5 op e quick) (λ h5.
    whether g 7 (λ e. in_group 7 op e moveq) (λ h7.
    whether g 11 (λ e. in_group 11 op e eor) (λ h11. no_other op h1 h2 h3 h4 h5 h7 h11)))))))

in_mask_lem : (s : ℕ → Bool) (mask : ℕ) → in_mask s mask ≡ true → (n : ℕ) → n < 16 → s n ≡ true → bit n mask ≡ true
in_mask_lem s mask t n h e = implied (each_below 16 (λ n. not (s n) || bit n mask) t n h) e

module _ (op : ℕ) (ok : (form_of op).valid ≡ true) where
  abbrev i : Instruction
  i = profile_of Mended op

  abbrev f : Form
  f = form_of op

  abbrev writing : Bool
  writing = in_mask f.writes i.defs

  abbrev touching : Bool
  touching = in_mask (λ n. f.reads n || f.writes n) (bit_or i.uses i.defs)

  both : (writing && (not (is_simple i.word.0) || touching)) ≡ true
  both = implied (all_held op) ok

  -- a head's writes
  pub writes_defined : (n : ℕ) → n < 16 → f.writes n ≡ true → bit n i.defs ≡ true
  writes_defined = in_mask_lem f.writes i.defs (and_left writing (not (is_simple i.word.0) || touching) both)

  -- a follower's reads and writes
  pub touches_named : is_simple i.word.0 ≡ true → (n : ℕ) → n < 16 → (f.reads n || f.writes n) ≡ true → bit n (bit_or i.uses i.defs) ≡ true
  touches_named simple = in_mask_lem (λ n. f.reads n || f.writes n) (bit_or i.uses i.defs) (implied (and_right writing (not (is_simple i.word.0) || touching) both) simple)
