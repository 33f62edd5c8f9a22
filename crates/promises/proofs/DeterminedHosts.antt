-- The promise of each function of the host, as the checker reads it, allows one answer at each input, everything that was lent included. What a function is not lent, its promise speaks of for any value: here for none.
-- Assumes nothing.
use mathlib.Core.Path.{sym, ◌∙◌}
use mathlib.Core.List.{[]}
use contract.Lifetimes
use Rattle.in_place.specs.Lent.{lent}
use Rattle.in_place.specs.Retire.{paid_by}
use Rattle.refusals.specs.Runs.{runs}
use Rattle.host.specs.HostRan.{host_outcome}
use Rattle.host.specs.HostImages.{host_image, host_state}
use Rattle.host.specs.HostWhy.{host_explained, host_why}
use Rattle.profile.specs.declared.Profile.TheVariants.{Crate}
use Rattle.promises.specs.Determined.{Determined, result}
use Rattle.promises.proofs.DeterminedInPlace.{one_number}
use Rattle.host.proofs.timing_060_fresh_at.Reads as host-timing-060-fresh-at
use Rattle.host.proofs.timing_060_retire_at.Reads as host-timing-060-retire-at
use Rattle.host.proofs.timing_060_explain_at.Reads as host-timing-060-explain-at
use Rattle.host.proofs.timing_060_break_at.Reads as host-timing-060-break-at
use Rattle.host.proofs.timing_060_clear_all_at.Reads as host-timing-060-clear-all-at
use Rattle.host.proofs.timing_060_clear_user_at.Reads as host-timing-060-clear-user-at
use Rattle.host.proofs.timing_060_class_word.Reads as host-timing-060-class-word
use Rattle.host.proofs.timing_060_masks_of.Reads as host-timing-060-masks-of
use Rattle.host.proofs.timing_060_run_trace_at.Reads as host-timing-060-run-trace-at
use Rattle.host.proofs.timing_060_explain_trace_at.Reads as host-timing-060-explain-trace-at
use Rattle.host.proofs.timing_060_run_batch_at.Reads as host-timing-060-run-batch-at
use Rattle.host.proofs.timing_060_image_write_at.Reads as host-timing-060-image-write-at
use Rattle.host.proofs.timing_060_image_read_at.Reads as host-timing-060-image-read-at
use Rattle.host.proofs.host_ran.Reads as host-host-ran

module _ (κs : Lifetimes.Lfts 0) where
  pub host_host_ran_determined : Determined result (host-host-ran.Post κs)
  host_host_ran_determined i r r' x x' p q = p ∙ sym q

  pub host_timing_060_class_word_determined : Determined result (host-timing-060-class-word.Post κs)
  host_timing_060_class_word_determined i r r' x x' p q = p ∙ sym q

  pub host_timing_060_masks_of_determined : Determined result (host-timing-060-masks-of.Post κs)
  host_timing_060_masks_of_determined i r r' x x' p q = p ∙ sym q

module _ (κs : Lifetimes.Lfts 1) where
  pub host_timing_060_break_at_determined : Determined (λ r x. lent [] [] x.0.now) (host-timing-060-break-at.Post κs)
  host_timing_060_break_at_determined i r r' x x' p q = p Crate [] [] ∙ sym (q Crate [] [])

module _ (κs : Lifetimes.Lfts 2) where
  pub host_timing_060_clear_all_at_determined : Determined (λ r x. lent [] x.0.now x.1.0.now) (host-timing-060-clear-all-at.Post κs)
  host_timing_060_clear_all_at_determined i r r' x x' p q = p Crate [] ∙ sym (q Crate [])

  pub host_timing_060_clear_user_at_determined : Determined (λ r x. lent [] x.0.now x.1.0.now) (host-timing-060-clear-user-at.Post κs)
  host_timing_060_clear_user_at_determined i r r' x x' p q = p Crate [] ∙ sym (q Crate [])

module _ (κs : Lifetimes.Lfts 3) where
  pub host_timing_060_fresh_at_determined : Determined (λ r x. lent x.0.now x.1.0.now x.1.1.0.now) (host-timing-060-fresh-at.Post κs)
  host_timing_060_fresh_at_determined i r r' x x' p q = p ∙ sym q

  pub host_timing_060_retire_at_determined : Determined (λ r x. paid_by r (lent x.0.now x.1.0.now x.1.1.0.now)) (host-timing-060-retire-at.Post κs)
  host_timing_060_retire_at_determined i r r' x x' p q = p ∙ sym q

  pub host_timing_060_retire_at_number_determined : Determined result (host-timing-060-retire-at.Post κs)
  host_timing_060_retire_at_number_determined i r r' x x' p q = one_number r r' (p ∙ sym q)

  pub host_timing_060_explain_at_determined : Determined (λ r x. host_explained r (lent x.0.now x.1.0.now x.1.1.0.now)) (host-timing-060-explain-at.Post κs)
  host_timing_060_explain_at_determined i r r' x x' p q = p ∙ sym q

module _ (κs : Lifetimes.Lfts 4) where
  pub host_timing_060_image_write_at_determined : Determined (λ r x. host_image r x.1.1.1.0.now) (host-timing-060-image-write-at.Post κs)
  host_timing_060_image_write_at_determined i r r' x x' p q = p ∙ sym q

  pub host_timing_060_image_read_at_determined : Determined (λ r x. host_state r (lent x.1.0.now x.1.1.0.now x.1.1.1.0.now)) (host-timing-060-image-read-at.Post κs)
  host_timing_060_image_read_at_determined i r r' x x' p q = p ∙ sym q

module _ (κs : Lifetimes.Lfts 6) where
  pub host_timing_060_run_trace_at_determined : Determined
      (λ r x. host_outcome r (runs x.1.0.now x.1.1.1.1.1.1.0.now) (lent x.1.1.0.now x.1.1.1.0.now x.1.1.1.1.0.now)) (host-timing-060-run-trace-at.Post κs)
  host_timing_060_run_trace_at_determined i r r' x x' p q = p ∙ sym q

  pub host_timing_060_run_batch_at_determined : Determined
      (λ r x. host_outcome r (runs x.1.0.now x.1.1.1.1.1.1.0.now) (lent x.1.1.0.now x.1.1.1.0.now x.1.1.1.1.0.now)) (host-timing-060-run-batch-at.Post κs)
  host_timing_060_run_batch_at_determined i r r' x x' p q = p ∙ sym q

module _ (κs : Lifetimes.Lfts 7) where
  pub host_timing_060_explain_trace_at_determined : Determined
      (λ r x.
      host_why (host_outcome r (runs x.1.0.now x.1.1.1.1.1.1.0.now) (lent x.1.1.0.now x.1.1.1.0.now x.1.1.1.1.0.now)) x.1.1.1.1.1.1.1.0.now)
      (host-timing-060-explain-trace-at.Post κs)
  host_timing_060_explain_trace_at_determined i r r' x x' p q = p ∙ sym q
