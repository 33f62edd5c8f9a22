-- A profile's class word has nothing of the masks, and its masks nothing of the class word.
-- Assumes nothing.
use mathlib.Core.Path.{◌≡◌, refl, sym, ◌∙◌}
use Prim.Native.Nat.{ℕ}
use Rattle.bits.proofs.Rows.{first_map}
use Rattle.class_word.specs.declared.Info060.{Info060}
use Rattle.window.specs.declared.dispatch.Instruction.{Instruction}
use Rattle.profile.specs.declared.Profile.{Profile}
use Rattle.profile.specs.declared.Profile.TheVariants.{Crate, Mended}
use Rattle.profile.specs.Mending.{mended_rows}
use Rattle.profile.specs.Profile.{read_in}

abbrev made : Info060 → ℕ → ℕ → Instruction
made word uses defs = record { word = word; uses = uses; defs = defs }

module _ (op : ℕ) (word word' : Info060) (u u' d d' : ℕ) where
  pub word_apart : (P : Profile) → (read_in P op (made word u d)).word ≡ (read_in P op (made word u' d')).word
  unfolding mended_rows
  word_apart Crate = refl
  word_apart Mended = first_map (λ (i : Instruction). i.word) (mended_rows op (made word u d)) ∙ sym (first_map (λ (i : Instruction). i.word) (mended_rows op (made word u' d')))

  pub uses_apart : (P : Profile) → (read_in P op (made word u d)).uses ≡ (read_in P op (made word' u d)).uses
  unfolding mended_rows
  uses_apart Crate = refl
  uses_apart Mended = first_map (λ (i : Instruction). i.uses) (mended_rows op (made word u d)) ∙ sym (first_map (λ (i : Instruction). i.uses) (mended_rows op (made word' u d)))

  pub defs_apart : (P : Profile) → (read_in P op (made word u d)).defs ≡ (read_in P op (made word' u d)).defs
  unfolding mended_rows
  defs_apart Crate = refl
  defs_apart Mended = first_map (λ (i : Instruction). i.defs) (mended_rows op (made word u d)) ∙ sym (first_map (λ (i : Instruction). i.defs) (mended_rows op (made word' u d)))
