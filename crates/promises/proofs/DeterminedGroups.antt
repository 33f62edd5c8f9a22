-- The promise of each public function of a group of opcodes, and of the profile that joins them, as the checker reads it, allows one answer at each input.
-- Assumes nothing.
use mathlib.Core.Path.{sym, ◌∙◌}
use contract.Lifetimes
use Rattle.promises.specs.Determined.{Determined, result}
use Rattle.classifier.proofs.group0.Reads as classifier-group0
use Rattle.classifier.proofs.move_060.Reads as classifier-move-060
use Rattle.classifier.proofs.group4.Reads as classifier-group4
use Rattle.classifier.proofs.lea_060.Reads as classifier-lea-060
use Rattle.classifier.proofs.group5.Reads as classifier-group5
use Rattle.classifier.proofs.group6.Reads as classifier-group6
use Rattle.classifier.proofs.group7.Reads as classifier-group7
use Rattle.classifier.proofs.group8.Reads as classifier-group8
use Rattle.classifier.proofs.add_sub.Reads as classifier-add-sub
use Rattle.classifier.proofs.group11.Reads as classifier-group11
use Rattle.classifier.proofs.group12.Reads as classifier-group12
use Rattle.classifier.proofs.group14.Reads as classifier-group14
use Rattle.masks.proofs.full.Reads as masks-full
use Rattle.masks.proofs.move_masks.Reads as masks-move-masks
use Rattle.masks.proofs.moveq_masks.Reads as masks-moveq-masks
use Rattle.masks.proofs.dyadic_masks.Reads as masks-dyadic-masks
use Rattle.masks.proofs.quick_masks.Reads as masks-quick-masks
use Rattle.masks.proofs.shift_masks.Reads as masks-shift-masks
use Rattle.masks.proofs.group4_masks.Reads as masks-group4-masks
use Rattle.profile.proofs.ProfileFromU32.from.Reads as profile-profile-from-u32
use Rattle.profile.proofs.U32FromProfile.from.Reads as profile-u32-from-profile
use Rattle.profile.proofs.read_in.Reads as profile-read-in
use Rattle.profile.proofs.instruction_060.Reads as profile-instruction-060

module _ (κs : Lifetimes.Lfts 0) where
  pub classifier_group0_determined : Determined result (classifier-group0.Post κs)
  classifier_group0_determined i r r' x x' p q = p ∙ sym q

  pub classifier_move_060_determined : Determined result (classifier-move-060.Post κs)
  classifier_move_060_determined i r r' x x' p q = p ∙ sym q

  pub classifier_group4_determined : Determined result (classifier-group4.Post κs)
  classifier_group4_determined i r r' x x' p q = p ∙ sym q

  pub classifier_lea_060_determined : Determined result (classifier-lea-060.Post κs)
  classifier_lea_060_determined i r r' x x' p q = p ∙ sym q

  pub classifier_group5_determined : Determined result (classifier-group5.Post κs)
  classifier_group5_determined i r r' x x' p q = p ∙ sym q

  pub classifier_group6_determined : Determined result (classifier-group6.Post κs)
  classifier_group6_determined i r r' x x' p q = p ∙ sym q

  pub classifier_group7_determined : Determined result (classifier-group7.Post κs)
  classifier_group7_determined i r r' x x' p q = p ∙ sym q

  pub classifier_group8_determined : Determined result (classifier-group8.Post κs)
  classifier_group8_determined i r r' x x' p q = p ∙ sym q

  pub classifier_add_sub_determined : Determined result (classifier-add-sub.Post κs)
  classifier_add_sub_determined i r r' x x' p q = p ∙ sym q

  pub classifier_group11_determined : Determined result (classifier-group11.Post κs)
  classifier_group11_determined i r r' x x' p q = p ∙ sym q

  pub classifier_group12_determined : Determined result (classifier-group12.Post κs)
  classifier_group12_determined i r r' x x' p q = p ∙ sym q

  pub classifier_group14_determined : Determined result (classifier-group14.Post κs)
  classifier_group14_determined i r r' x x' p q = p ∙ sym q

  pub masks_full_determined : Determined result (masks-full.Post κs)
  masks_full_determined i r r' x x' p q = p ∙ sym q

  pub masks_move_masks_determined : Determined result (masks-move-masks.Post κs)
  masks_move_masks_determined i r r' x x' p q = p ∙ sym q

  pub masks_moveq_masks_determined : Determined result (masks-moveq-masks.Post κs)
  masks_moveq_masks_determined i r r' x x' p q = p ∙ sym q

  pub masks_dyadic_masks_determined : Determined result (masks-dyadic-masks.Post κs)
  masks_dyadic_masks_determined i r r' x x' p q = p ∙ sym q

  pub masks_quick_masks_determined : Determined result (masks-quick-masks.Post κs)
  masks_quick_masks_determined i r r' x x' p q = p ∙ sym q

  pub masks_shift_masks_determined : Determined result (masks-shift-masks.Post κs)
  masks_shift_masks_determined i r r' x x' p q = p ∙ sym q

  pub masks_group4_masks_determined : Determined result (masks-group4-masks.Post κs)
  masks_group4_masks_determined i r r' x x' p q = p ∙ sym q

  pub profile_profile_from_u32_determined : Determined result (profile-profile-from-u32.Post κs)
  profile_profile_from_u32_determined i r r' x x' p q = p ∙ sym q

  pub profile_u32_from_profile_determined : Determined result (profile-u32-from-profile.Post κs)
  profile_u32_from_profile_determined i r r' x x' p q = p ∙ sym q

  pub profile_read_in_determined : Determined result (profile-read-in.Post κs)
  profile_read_in_determined i r r' x x' p q = p ∙ sym q

  pub profile_instruction_060_determined : Determined result (profile-instruction-060.Post κs)
  profile_instruction_060_determined i r r' x x' p q = p ∙ sym q
