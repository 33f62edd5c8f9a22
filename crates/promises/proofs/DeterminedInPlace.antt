-- The promise of each public function of the step in place and of the numbers that it is done on, as the checker reads it, allows one answer at each input, the lent numbers included.
-- Assumes nothing.
use mathlib.Core.Path.{◌≡◌, refl, sym, ap, ◌∙◌}
use Prim.Native.Nat.{ℕ, ◌/◌, ◌%◌, ◌^◌}
use native.Mathlib.Omega.{arith}
use mathlib.Core.List.{[]}
use contract.Lifetimes
use Rattle.class_word.specs.Word.{info}
use Rattle.window.specs.declared.dispatch.Instruction.{Instruction}
use Rattle.in_place.specs.Lent.{Lent, lent}
use Rattle.in_place.specs.Retire.{Paid, paid_by}
use Rattle.profile.specs.declared.Profile.TheVariants.{Crate}
use Rattle.promises.specs.Determined.{Determined, result}
use Rattle.in_place.proofs.window_at.Reads as in-place-window-at
use Rattle.in_place.proofs.put_window.Reads as in-place-put-window
use Rattle.in_place.proofs.timing_at.Reads as in-place-timing-at
use Rattle.state.proofs.controls_of.Reads as state-controls-of
use Rattle.state.proofs.retirement_of.Reads as state-retirement-of
use Rattle.state.proofs.control_flags.Reads as state-control-flags
use Rattle.in_place.proofs.retire_at.Reads as in-place-retire-at
use Rattle.in_place.proofs.retire_in_place.Reads as in-place-retire-in-place
use Rattle.in_place.proofs.retire_branch.Reads as in-place-retire-branch
use Rattle.in_place.proofs.retire_flow.Reads as in-place-retire-flow
use Rattle.in_place.proofs.retire_neither.Reads as in-place-retire-neither
use Rattle.in_place.proofs.decoded.Decoded.new.Reads as in-place-decoded-new
use Rattle.in_place.proofs.decoded.Decoded.look_up.Reads as in-place-decoded-look-up
use Rattle.in_place.proofs.shut_window.Reads as in-place-shut-window
use Rattle.in_place.proofs.clear_all_at.Reads as in-place-clear-all-at
use Rattle.in_place.proofs.clear_user_at.Reads as in-place-clear-user-at
use Rattle.in_place.proofs.event_at.Reads as in-place-event-at
use Rattle.in_place.proofs.answer_in.Reads as in-place-answer-in
use Rattle.in_place.proofs.clocks_in.Reads as in-place-clocks-in

-- the number that holds both is one number
pub one_number : (n m : ℕ) {l k : Lent} → paid_by n l ≡ paid_by m k → n ≡ m
one_number n m e =
    let low : n % 2 ^ 32 ≡ m % 2 ^ 32 = ap (λ (x : Paid). x.cost.0) e in
    let high : n / 2 ^ 32 ≡ m / 2 ^ 32 = ap (λ (x : Paid). x.answer) e in
    omega (arith, low, high)

module _ (κs : Lifetimes.Lfts 0) where
  -- a table of decoded opcodes is its profile and its entries
  pub in_place_decoded_new_profile_determined : Determined (λ r x. r.profile) (in-place-decoded-new.Post κs)
  in_place_decoded_new_profile_determined i r r' x x' p q = p.0 ∙ sym q.0

  pub in_place_decoded_new_table_determined : Determined (λ r x. r.entries) (in-place-decoded-new.Post κs)
  in_place_decoded_new_table_determined i r r' x x' p q = p.1 ∙ sym q.1

  pub in_place_clocks_in_determined : Determined result (in-place-clocks-in.Post κs)
  in_place_clocks_in_determined i r r' x x' p q = p ∙ sym q

  pub in_place_answer_in_determined : Determined result (in-place-answer-in.Post κs)
  in_place_answer_in_determined i r r' x x' p q = p ∙ sym q

  pub in_place_window_at_determined : Determined result (in-place-window-at.Post κs)
  in_place_window_at_determined i r r' x x' p q = p ∙ sym q

  pub in_place_timing_at_determined : Determined result (in-place-timing-at.Post κs)
  in_place_timing_at_determined i r r' x x' p q = p ∙ sym q

  pub state_controls_of_determined : Determined result (state-controls-of.Post κs)
  state_controls_of_determined i r r' x x' p q = p ∙ sym q

  pub state_retirement_of_determined : Determined result (state-retirement-of.Post κs)
  state_retirement_of_determined i r r' x x' p q = p ∙ sym q

  pub state_control_flags_determined : Determined result (state-control-flags.Post κs)
  state_control_flags_determined i r r' x x' p q = p ∙ sym q

module _ (κs : Lifetimes.Lfts 1) where
  pub in_place_shut_window_determined : Determined (λ r x. x.0.now) (in-place-shut-window.Post κs)
  in_place_shut_window_determined i r r' x x' p q = p ∙ sym q

  pub in_place_put_window_determined : Determined (λ r x. x.0.now) (in-place-put-window.Post κs)
  in_place_put_window_determined i r r' x x' p q = p ∙ sym q

-- what is no branch
abbrev other : Instruction
other = record { word = info 0; uses = 0; defs = 0 }

module _ (κs : Lifetimes.Lfts 1) where
  pub in_place_retire_flow_determined : Determined (λ r x. paid_by r (lent [] [] x.0.now)) (in-place-retire-flow.Post κs)
  in_place_retire_flow_determined i r r' x x' p q = p other refl 0 [] [] ∙ sym (q other refl 0 [] [])

  pub in_place_retire_flow_number_determined : Determined result (in-place-retire-flow.Post κs)
  in_place_retire_flow_number_determined i r r' x x' p q = one_number r r' (p other refl 0 [] [] ∙ sym (q other refl 0 [] []))

  pub in_place_retire_neither_determined : Determined (λ r x. paid_by r (lent [] [] x.0.now)) (in-place-retire-neither.Post κs)
  in_place_retire_neither_determined i r r' x x' p q = p [] [] ∙ sym (q [] [])

  pub in_place_retire_neither_number_determined : Determined result (in-place-retire-neither.Post κs)
  in_place_retire_neither_number_determined i r r' x x' p q = one_number r r' (p [] [] ∙ sym (q [] []))

module _ (κs : Lifetimes.Lfts 4) where
  pub in_place_decoded_look_up_determined : Determined result (in-place-decoded-look-up.Post κs)
  in_place_decoded_look_up_determined i r r' x x' p q = p.0 ∙ sym q.0

  pub in_place_decoded_look_up_lent_determined : Determined (λ r x. lent x.1.0.now x.1.1.0.now x.1.1.1.0.now) (in-place-decoded-look-up.Post κs)
  in_place_decoded_look_up_lent_determined i r r' x x' p q = p.1.0 ∙ sym q.1.0

  pub in_place_decoded_look_up_profile_determined : Determined (λ r x. x.0.now.profile) (in-place-decoded-look-up.Post κs)
  in_place_decoded_look_up_profile_determined i r r' x x' p q = p.1.1.0 ∙ sym q.1.1.0

  pub in_place_decoded_look_up_table_determined : Determined (λ r x. x.0.now.entries) (in-place-decoded-look-up.Post κs)
  in_place_decoded_look_up_table_determined i r r' x x' p q = p.1.1.1 ∙ sym q.1.1.1

module _ (κs : Lifetimes.Lfts 3) where
  pub in_place_retire_branch_determined : Determined (λ r x. paid_by r (lent x.0.now x.1.0.now x.1.1.0.now)) (in-place-retire-branch.Post κs)
  in_place_retire_branch_determined i r r' x x' p q = p 0 ∙ sym (q 0)

  pub in_place_retire_branch_number_determined : Determined result (in-place-retire-branch.Post κs)
  in_place_retire_branch_number_determined i r r' x x' p q = one_number r r' (p 0 ∙ sym (q 0))

  pub in_place_event_at_determined : Determined result (in-place-event-at.Post κs)
  in_place_event_at_determined i r r' x x' p q = p.0 ∙ sym q.0

  pub in_place_event_at_lent_determined : Determined (λ r x. lent x.0.now x.1.0.now x.1.1.0.now) (in-place-event-at.Post κs)
  in_place_event_at_lent_determined i r r' x x' p q = p.1 ∙ sym q.1

  pub in_place_retire_at_determined : Determined (λ r x. paid_by r (lent x.0.now x.1.0.now x.1.1.0.now)) (in-place-retire-at.Post κs)
  in_place_retire_at_determined i r r' x x' p q = p ∙ sym q

  pub in_place_retire_in_place_determined : Determined (λ r x. paid_by r (lent x.0.now x.1.0.now x.1.1.0.now)) (in-place-retire-in-place.Post κs)
  in_place_retire_in_place_determined i r r' x x' p q = p ∙ sym q

  pub in_place_retire_at_number_determined : Determined result (in-place-retire-at.Post κs)
  in_place_retire_at_number_determined i r r' x x' p q = one_number r r' (p ∙ sym q)

  pub in_place_retire_in_place_number_determined : Determined result (in-place-retire-in-place.Post κs)
  in_place_retire_in_place_number_determined i r r' x x' p q = one_number r r' (p ∙ sym q)

module _ (κs : Lifetimes.Lfts 2) where
  pub in_place_clear_all_at_determined : Determined (λ r x. lent [] x.0.now x.1.0.now) (in-place-clear-all-at.Post κs)
  in_place_clear_all_at_determined i r r' x x' p q = p Crate [] ∙ sym (q Crate [])

  pub in_place_clear_user_at_determined : Determined (λ r x. lent [] x.0.now x.1.0.now) (in-place-clear-user-at.Post κs)
  in_place_clear_user_at_determined i r r' x x' p q = p Crate [] ∙ sym (q Crate [])
