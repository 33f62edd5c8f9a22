-- The class words of PACK, and of CHK and LEA on register 0, each the same for all opcodes of its line: tested at each of them, computed.
-- Assumes nothing.
use mathlib.Core.Path.{◌≡◌, refl}
use mathlib.Core.Logic.{◌⊎◌, inl, inr, ⊎_elim}
use mathlib.Core.Bool.{Bool, true, false, not, ◌||◌}
use Prim.Native.Nat.{ℕ, ◌+◌, ◌<◌, ◌≤◌}
use native.Mathlib.Omega.{arith}
use lib.Dec.{eqb, leb}
use borrow.Author.Tests.{leb-true, eqb-true}
use Rattle.bits.specs.Pattern.{matches}
use Rattle.bits.specs.Below.{every_below}
use Rattle.bits.proofs.Below.{each_between}
use Rattle.bits.proofs.Bools.{and_left, and_right, implied}
use Rattle.class_word.specs.declared.OepClass.TheVariants.{PoepSoep, PoepOnly}
use Rattle.class_word.specs.Word.{VARIABLE, DEFINES_CCR}
use Rattle.classifier.specs.Entry.{Entry, entry, plain, entry_word, ea, addressed}
use Rattle.classifier.specs.Group4.{group4}
use Rattle.classifier.specs.HighGroups.{group8}
use Rattle.classifier.specs.Classify.{classify_of}
use Rattle.profile.specs.Inner.{chk_entry}
use Rattle.profile.specs.Mending.{from◌to◌, on_register, unpk, chk_on_4, lea_on_4, pack_for}

-- an opcode of a range lies in it
pub ranged : (a b op : ℕ) → (from a to b) op ≡ true → (a ≤ op) × (op ≤ b)
ranged a b op h = (leb-true a op (and_left (leb a op) (leb op b) h), leb-true op b (and_right (leb a op) (leb op b) h))

either : (a b : Bool) → (a || b) ≡ true → (a ≡ true) ⊎ (b ≡ true)
either true b h = inl refl
either false b h = inr h

-- where the opcode is of the line, the word x has is the entry's
abbrev Gives : (ℕ → Bool) → (ℕ → ℕ) → (ℕ → Entry) → ℕ → Bool
Gives line x e op = not (line op) || eqb (classify_of (x op)) (entry_word (e op))

given : (line : ℕ → Bool) (x : ℕ → ℕ) (e : ℕ → Entry) (op : ℕ) → Gives line x e op ≡ true → line op ≡ true → classify_of (x op) ≡ entry_word (e op)
given line x e op h l = eqb-true (classify_of (x op)) (entry_word (e op)) (implied h l)

pack_all : every_below 4096 (λ k. Gives unpk pack_for (λ op. plain PoepOnly 2 (DEFINES_CCR + VARIABLE)) (0x8000 + k)) ≡ true
unfolding classify_of group8 matches
pack_all = refl

chk_all : every_below 256 (λ k. Gives chk_on_4 (on_register 0) chk_entry (0x4900 + k)) ≡ true
unfolding classify_of group4 matches
chk_all = refl

lea_all : every_below 256 (λ k. Gives lea_on_4 (on_register 0) (λ op. entry PoepSoep 1 0 (addressed op)) (0x4900 + k)) ≡ true
unfolding classify_of group4 matches ea
lea_all = refl

module _ (op : ℕ) where
  pub unpk_in : unpk op ≡ true → (0x8000 ≤ op) × (op < 0x9000)
  unpk_in h = let q = ranged 0x8180 0x818F (on_register 0 op) h in (omega (arith, q.0, q.1), omega (arith, q.0, q.1))

  pub on_four : (chk_on_4 op || lea_on_4 op) ≡ true → (0x4900 ≤ op) × (op < 0x4A00)
  on_four h =
      ⊎_elim
      (λ c. ⊎_elim (λ x. let q = ranged 0x4900 0x493F op x in (omega (arith, q.0), omega (arith, q.1))) (λ y. let q = ranged 0x4980 0x49BF op y in (omega (arith, q.0), omega (arith, q.1))) (either ((from 0x4900 to 0x493F) op) ((from 0x4980 to 0x49BF) op) c))
      (λ l. let q = ranged 0x49C8 0x49FF op l in (omega (arith, q.0), omega (arith, q.1)))
      (either (chk_on_4 op) (lea_on_4 op) h)

  pub pack_word : unpk op ≡ true → classify_of (pack_for op) ≡ entry_word (plain PoepOnly 2 (DEFINES_CCR + VARIABLE))
  pack_word h =
      let q = unpk_in h in
      given unpk pack_for (λ op. plain PoepOnly 2 (DEFINES_CCR + VARIABLE)) op
      (each_between 0x8000 4096 (Gives unpk pack_for (λ op. plain PoepOnly 2 (DEFINES_CCR + VARIABLE))) pack_all op q.0 (omega (arith, q.1))) h

  pub chk_word : chk_on_4 op ≡ true → classify_of (on_register 0 op) ≡ entry_word (chk_entry op)
  chk_word h =
      let q = on_four (rw h refl) in
      given chk_on_4 (on_register 0) chk_entry op
      (each_between 0x4900 256 (Gives chk_on_4 (on_register 0) chk_entry) chk_all op q.0 (omega (arith, q.1))) h

  pub lea_word : lea_on_4 op ≡ true → classify_of (on_register 0 op) ≡ entry_word (entry PoepSoep 1 0 (addressed op))
  lea_word h =
      let q = ranged 0x49C8 0x49FF op h in
      given lea_on_4 (on_register 0) (λ op. entry PoepSoep 1 0 (addressed op)) op
      (each_between 0x4900 256 (Gives lea_on_4 (on_register 0) (λ op. entry PoepSoep 1 0 (addressed op))) lea_all op (omega (arith, q.0)) (omega (arith, q.1))) h
