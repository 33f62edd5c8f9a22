-- The facts of every opcode, from its entry.
-- Assumes nothing.
use Prim.Native.Nat.{ℕ}
use mathlib.Core.Path.{◌≡◌, sym, ◌∙◌}
use mathlib.Core.Bool.{Bool, true, false, ◌&&◌}
use native.Mathlib.Omega.{arith}
use lib.Dec.{eqb}
use borrow.Author.Tests.{eq-eqb}
use Rattle.std.proofs.lemmas.Bool.{and_parts, false_from_ne_true}
use Rattle.class_word.specs.Word.{class_number, class_of, has, VARIABLE, EA_INDEXED}
use Rattle.classifier.specs.Entry.{Entry, entry_word}
use Rattle.classifier.specs.Classify.{classify_of, entry_of}
use Rattle.promises.specs.Opcodes.{Fits, EveryOpcode}
use Rattle.promises.proofs.Entries.{Sound, sound_of, class_kept, clocks_kept, branch_kept, variable_kept, indexed_kept, within}

module _ (e : Entry) (ok : Sound e) where
  in_class_lem : {n : ℕ} → class_of (entry_word e) ≡ n → eqb (class_number e.class) n ≡ true
  in_class_lem {n} h = eq-eqb (class_number e.class) n (sym (class_kept e ok) ∙ h)

  not_both_lem : (a b : Bool) → (a ≡ true → b ≡ true → ⊥) → (a && b) ≡ false
  not_both_lem a b f = false_from_ne_true (a && b) (λ h. f (and_parts a b h).0 (and_parts a b h).1)

  word_fits : Fits (entry_word e)
  word_fits = record { within = within e ok; made_up = omega arith }

pub every_opcode : EveryOpcode
unfolding classify_of
every_opcode =
    record {
      class0_has_one_clock = λ op h. clocks_kept (entry_of op) (sound_of op) ∙ (sound_of op).one (in_class_lem (entry_of op) (sound_of op) h);
      at_least_one_clock = λ op. omega (arith, clocks_kept (entry_of op) (sound_of op), (sound_of op).some);
      class3_never = λ op h. (sound_of op).not3 (in_class_lem (entry_of op) (sound_of op) h);
      never_variable_and_indexed = λ op. not_both_lem (entry_of op) (sound_of op) (has (classify_of op) VARIABLE) (has (classify_of op) EA_INDEXED)
          (λ h k. (sound_of op).not_both (sym (variable_kept (entry_of op) (sound_of op)) ∙ h) (sym (indexed_kept (entry_of op) (sound_of op)) ∙ k));
      branch_not_in_class0 = λ op h k. (sound_of op).straight (in_class_lem (entry_of op) (sound_of op) k) (sym (branch_kept (entry_of op) (sound_of op)) ∙ h);
      fits = λ op. word_fits (entry_of op) (sound_of op);
    }
