-- The promise of each public function of parts 1 to 3 of document 01, and of the tools' text, as the checker reads it, allows one answer at each input.
-- Assumes nothing.
use mathlib.Core.Path.{◌≡◌, refl, sym, ap, ◌∙◌}
use contract.Lifetimes
use mir.Syntax.{w64}
use mir.Val.{Fits}
use mathlib.Core.Bool.{cond}
use Prim.Native.Nat.{ℕ}
use lib.Dec.{eqb}
use Rattle.class_word.specs.declared.OepClass.{OepClass}
use Rattle.class_word.specs.declared.OepClass.TheVariants.{PoepSoep, PoepOnly, PoepUntilLast, PoepButAllowsSoep}
use Rattle.class_word.specs.Word.{class_number}
use Rattle.promises.specs.Determined.{Determined, result}
use Rattle.bits.proofs.mode_of.Reads as bits-mode-of
use Rattle.bits.proofs.reg_of.Reads as bits-reg-of
use Rattle.bits.proofs.dst_mode_of.Reads as bits-dst-mode-of
use Rattle.bits.proofs.dst_reg_of.Reads as bits-dst-reg-of
use Rattle.class_word.proofs.U16FromOepClass.from.Reads as class-word-u16-from-oep-class
use Rattle.class_word.proofs.Info060.new.Reads as class-word-info060-new
use Rattle.class_word.proofs.Info060.class.Reads as class-word-info060-class
use Rattle.class_word.proofs.Info060.cycles.Reads as class-word-info060-cycles
use Rattle.class_word.proofs.Info060.has.Reads as class-word-info060-has
use Rattle.classifier.proofs.unclassified.Reads as classifier-unclassified
use Rattle.classifier.proofs.classify_060_opcode.Reads as classifier-classify-060-opcode
use Rattle.classifier.proofs.classify_by_group.Reads as classifier-classify-by-group
use Rattle.classifier.proofs.info_060.Reads as classifier-info-060
use Rattle.classifier.proofs.rule_of.Reads as classifier-rule-of
use Rattle.classifier.proofs.finish.Reads as classifier-finish
use Rattle.masks.proofs.reg_masks_060.Reads as masks-reg-masks-060
use Rattle.text.proofs.hex_digits.Reads as text-hex-digits

-- a class is known by its number
class_at : ℕ → OepClass
class_at n = cond (eqb n 0) PoepSoep (cond (eqb n 1) PoepOnly (cond (eqb n 2) PoepUntilLast PoepButAllowsSoep))

class_known : (c : OepClass) → class_at (class_number c) ≡ c
unfolding class_at
class_known PoepSoep = refl
class_known PoepOnly = refl
class_known PoepUntilLast = refl
class_known PoepButAllowsSoep = refl

module _ (κs : Lifetimes.Lfts 0) where
  pub bits_mode_of_determined : Determined result (bits-mode-of.Post κs)
  bits_mode_of_determined i r r' x x' p q = p ∙ sym q

  pub bits_reg_of_determined : Determined result (bits-reg-of.Post κs)
  bits_reg_of_determined i r r' x x' p q = p ∙ sym q

  pub bits_dst_mode_of_determined : Determined result (bits-dst-mode-of.Post κs)
  bits_dst_mode_of_determined i r r' x x' p q = p ∙ sym q

  pub bits_dst_reg_of_determined : Determined result (bits-dst-reg-of.Post κs)
  bits_dst_reg_of_determined i r r' x x' p q = p ∙ sym q

  pub class_word_u16_from_oep_class_determined : Determined result (class-word-u16-from-oep-class.Post κs)
  class_word_u16_from_oep_class_determined i r r' x x' p q = p ∙ sym q

  pub class_word_info060_new_determined : Determined result (class-word-info060-new.Post κs)
  class_word_info060_new_determined i r r' x x' p q = p ∙ sym q

  pub class_word_info060_class_determined : Determined result (class-word-info060-class.Post κs)
  class_word_info060_class_determined i r r' x x' p q = sym (class_known r) ∙ ap class_at (p ∙ sym q) ∙ class_known r'

  pub class_word_info060_cycles_determined : Determined result (class-word-info060-cycles.Post κs)
  class_word_info060_cycles_determined i r r' x x' p q = p ∙ sym q

  pub class_word_info060_has_determined : Determined result (class-word-info060-has.Post κs)
  class_word_info060_has_determined i r r' x x' p q = p ∙ sym q

  pub classifier_unclassified_determined : Determined result (classifier-unclassified.Post κs)
  classifier_unclassified_determined i r r' x x' p q = p ∙ sym q

  pub classifier_classify_060_opcode_determined : Determined result (classifier-classify-060-opcode.Post κs)
  classifier_classify_060_opcode_determined i r r' x x' p q = p ∙ sym q

  pub classifier_classify_by_group_determined : Determined result (classifier-classify-by-group.Post κs)
  classifier_classify_by_group_determined i r r' x x' p q = p ∙ sym q

  pub classifier_rule_of_determined : Determined result (classifier-rule-of.Post κs)
  classifier_rule_of_determined i r r' x x' p q = p.0 ∙ sym q.0

  pub classifier_finish_determined : Determined result (classifier-finish.Post κs)
  classifier_finish_determined i r r' x x' p q = p ∙ sym q

  pub classifier_info_060_determined : Determined result (classifier-info-060.Post κs)
  classifier_info_060_determined i r r' x x' p q = p ∙ sym q

  pub masks_reg_masks_060_determined : Determined result (masks-reg-masks-060.Post κs)
  masks_reg_masks_060_determined i r r' x x' p q = p ∙ sym q

-- of any number of digits
module _ (DIGITS : ℕ) (fits : Fits w64 DIGITS) (κs : Lifetimes.Lfts 1) where
  pub text_hex_digits_determined : Determined result (text-hex-digits.Post DIGITS fits κs)
  text_hex_digits_determined i r r' x x' p q = p ∙ sym q
