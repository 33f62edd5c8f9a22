-- Every row of every group has a sound entry, whatever the opcode: one computed test. What a sound entry says, its word says.
-- Assumes nothing.
use Prim.Native.Nat.{ℕ, ◌+◌, ◌/◌, ◌%◌, ◌^◌, ◌<◌, ◌≤◌}
use mathlib.Core.Path.{◌≡◌, refl, ap, ◌∙◌}
use mathlib.Core.Bool.{Bool, true, not, ◌||◌}
use mathlib.Core.List.{List, [], ◌∷◌}
use native.Mathlib.Omega.{arith}
use lib.Dec.{eqb, leb, ltb}
use borrow.Author.Tests.{eqb-true, leb-true, ltb-true}
use Rattle.bits.specs.Rows.{first, every_row}
use Rattle.bits.specs.Fields.{group_of}
use Rattle.bits.specs.Words.{num, bit}
use Rattle.bits.proofs.Bools.{all_of, all_true, not_true, implied}
use Rattle.bits.proofs.Rows.{first_has}
use Rattle.bits.proofs.Words.{num_small, num_is, meets_bit}
use Rattle.class_word.specs.Word.{class_number, class_of, clocks_of, has, BRANCH, VARIABLE, EA_INDEXED}
use Rattle.class_word.proofs.Words.{class_small, word_class, word_clocks}
use Rattle.classifier.specs.Entry.{Entry, access_flags, entry_word}
use Rattle.classifier.specs.LowGroups.{group0, move, group5, group6, group7}
use Rattle.classifier.specs.Group4.{group4}
use Rattle.classifier.specs.HighGroups.{group8, add_sub, group11, group12, group14}
use Rattle.classifier.specs.Classify.{groups, entry_of}

abbrev pub in_class : ℕ → Entry → Bool
in_class n e = eqb (class_number e.class) n

-- the fixed flags keep off the class, the clocks and what the operands give; then the facts. No test looks at the opcode
abbrev sound_tests : Entry → List Bool
sound_tests e =
    eqb (e.flags % 128) 0
    ∷ eqb (e.flags / 4096 % 2) 0
    ∷ ltb e.flags 16384
    ∷ leb 1 e.clocks
    ∷ ltb e.clocks 32
    ∷ not (in_class 3 e)
    ∷ (not (in_class 0 e) || eqb e.clocks 1)
    ∷ (not (in_class 0 e) || not (bit 7 e.flags))
    ∷ (not (bit 9 e.flags) || not e.access.indexed)
    ∷ []

abbrev sound : Entry → Bool
sound e = all_of (sound_tests e)

entry_sound : (op : ℕ) → sound (entry_of op) ≡ true
unfolding group0 move group4 group5 group6 group7 group8 add_sub group11 group12 group14
entry_sound op = first_has sound (first (groups (group_of op) op)) (first_has (every_row sound) (groups (group_of op) op) refl)

-- the entry of an opcode, with what the tests say of it
pub record Sound (e : Entry) : Type 0 where
  pub low : e.flags % 128 ≡ 0
  pub unindexed : e.flags / 4096 % 2 ≡ 0
  pub small : e.flags < 16384
  pub some : 1 ≤ e.clocks
  pub few : e.clocks < 32
  pub not3 : in_class 3 e ≡ true → ⊥
  pub one : in_class 0 e ≡ true → e.clocks ≡ 1
  pub straight : in_class 0 e ≡ true → bit 7 e.flags ≡ true → ⊥
  pub not_both : bit 9 e.flags ≡ true → e.access.indexed ≡ true → ⊥

pub sound_of : (op : ℕ) → Sound (entry_of op)
sound_of op =
    let e = entry_of op in
    let t = all_true (sound_tests e) (entry_sound op) in
    record {
      low = eqb-true _ _ t.0;
      unindexed = eqb-true _ _ t.1.0;
      small = ltb-true _ _ t.1.1.0;
      some = leb-true _ _ t.1.1.1.0;
      few = ltb-true _ _ t.1.1.1.1.0;
      not3 = not_true t.1.1.1.1.1.0;
      one = λ h. eqb-true _ _ (implied t.1.1.1.1.1.1.0 h);
      straight = λ h. not_true (implied t.1.1.1.1.1.1.1.0 h);
      not_both = λ h. not_true (implied t.1.1.1.1.1.1.1.1.0 h);
    }

-- what a sound entry says, its word says
module _ (e : Entry) (ok : Sound e) where
  sum_low : (e.flags + access_flags e.access) % 128 ≡ 0
  sum_low = omega (arith, ok.low)

  pub class_kept : class_of (entry_word e) ≡ class_number e.class
  class_kept = word_class (class_number e.class) e.clocks (e.flags + access_flags e.access) (class_small e.class) ok.few sum_low

  pub clocks_kept : clocks_of (entry_word e) ≡ e.clocks
  clocks_kept = word_clocks (class_number e.class) e.clocks (e.flags + access_flags e.access) (class_small e.class) ok.few sum_low

  -- a flag among the fixed ones, below those that the operands give
  flag_kept : (i : ℕ) → entry_word e / 2 ^ i % 2 ≡ e.flags / 2 ^ i % 2 → has (entry_word e) (2 ^ i) ≡ bit i e.flags
  flag_kept i h = meets_bit (entry_word e) i ∙ ap (λ (n : ℕ). eqb n 1) h

  pub branch_kept : has (entry_word e) BRANCH ≡ bit 7 e.flags
  branch_kept = flag_kept 7 (omega (arith, ok.low, ok.few, class_small e.class))

  pub variable_kept : has (entry_word e) VARIABLE ≡ bit 9 e.flags
  variable_kept = flag_kept 9 (omega (arith, ok.low, ok.few, class_small e.class))

  pub indexed_kept : has (entry_word e) EA_INDEXED ≡ e.access.indexed
  indexed_kept =
      meets_bit (entry_word e) 12
      ∙ ap (λ (n : ℕ). eqb n 1) bit_12
      ∙ num_is e.access.indexed
    where
      bit_12 : entry_word e / 4096 % 2 ≡ num e.access.indexed
      bit_12 = omega (arith, ok.low, ok.unindexed, ok.few, class_small e.class, num_small e.access.indexed)

  pub within : entry_word e < 65536
  within =
      omega (arith, ok.small, ok.few, class_small e.class, num_small e.access.indexed, num_small e.access.reads, num_small e.access.writes)
