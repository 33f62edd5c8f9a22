-- The promise of each public function of parts 4 and 5 of document 01, as the checker reads it, allows one answer at each input.
-- Assumes nothing.
use mathlib.Core.Path.{sym, ◌∙◌}
use contract.Lifetimes
use Rattle.branch_cache.specs.Cache.{cache_at}
use Rattle.promises.specs.Determined.{Determined, result}
use Rattle.branch_cache.proofs.slot.Slot.hit.Reads as branch-cache-slot-hit
use Rattle.branch_cache.proofs.slot.Slot.predict.Reads as branch-cache-slot-predict
use Rattle.branch_cache.proofs.slot.Slot.update.Reads as branch-cache-slot-update
use Rattle.branch_cache.proofs.BranchCache060.fresh.Reads as branch-cache-branchcache060-fresh
use Rattle.branch_cache.proofs.BranchCache060.slot.Reads as branch-cache-branchcache060-slot
use Rattle.branch_cache.proofs.BranchCache060.clear_all.Reads as branch-cache-branchcache060-clear-all
use Rattle.branch_cache.proofs.BranchCache060.clear_user.Reads as branch-cache-branchcache060-clear-user
use Rattle.window.proofs.Window.shut.Reads as window-window-shut
use Rattle.window.proofs.Window.seen.Reads as window-window-seen
use Rattle.window.proofs.fallback_cycles.Reads as window-fallback-cycles
use Rattle.cost.proofs.taken.Reads as cost-taken
use Rattle.window.proofs.memory.Reads as window-memory
use Rattle.window.proofs.failing.Reads as window-failing
use Rattle.window.proofs.soep_dispatch_test.Reads as window-soep-dispatch-test
use Rattle.cost.proofs.charge_branch.Reads as cost-charge-branch
use Rattle.cost.proofs.flow_cost.Reads as cost-flow-cost
use Rattle.cost.proofs.charge_neither.Reads as cost-charge-neither
use Rattle.cost.proofs.charge_other.Reads as cost-charge-other
use Rattle.step.proofs.looked_up.Reads as step-looked-up
use Rattle.step.proofs.cycles_060.Reads as step-cycles-060
use Rattle.state.proofs.Oep060Timing.fresh.Reads as state-oep060timing-fresh
use Rattle.state.proofs.Oep060Timing.seen.Reads as state-oep060timing-seen
use Rattle.state.proofs.Oep060Timing.broken.Reads as state-oep060timing-broken
use Rattle.state.proofs.Oep060Timing.clear_all.Reads as state-oep060timing-clear-all
use Rattle.state.proofs.Oep060Timing.clear_user.Reads as state-oep060timing-clear-user
use Rattle.refusals.proofs.number.Reads as refusals-number
use Rattle.refusals.proofs.place.Reads as refusals-place
use Rattle.refusals.proofs.refused.Reads as refusals-refused
use Rattle.branch_cache.proofs.BranchCache060.predict.Reads as branch-cache-branchcache060-predict
use Rattle.branch_cache.proofs.BranchCache060.update.Reads as branch-cache-branchcache060-update
use Rattle.branch_cache.proofs.update_at.Reads as branch-cache-update-at
use Rattle.cost.proofs.branch_cost_060.Reads as cost-branch-cost-060
use Rattle.cost.proofs.branch.U8FromAnswer.from.Reads as cost-u8-from-answer
use Rattle.cost.proofs.branch.AnswerFromU8.from.Reads as cost-answer-from-u8
use Rattle.cost.proofs.branch.AnswerFromOptionBool.from.Reads as cost-answer-from-option-bool
use Rattle.cost.proofs.as_head.Reads as cost-as-head
use Rattle.state.proofs.consulted.Reads as state-consulted
use Rattle.state.proofs.packed_below.Reads as state-packed-below

module _ (κs : Lifetimes.Lfts 0) where
  pub state_consulted_determined : Determined result (state-consulted.Post κs)
  state_consulted_determined i r r' x x' p q = p ∙ sym q

  pub state_packed_below_determined : Determined result (state-packed-below.Post κs)
  state_packed_below_determined i r r' x x' p q = p ∙ sym q

  pub cost_as_head_determined : Determined result (cost-as-head.Post κs)
  cost_as_head_determined i r r' x x' p q = p ∙ sym q

  pub cost_u8_from_answer_determined : Determined result (cost-u8-from-answer.Post κs)
  cost_u8_from_answer_determined i r r' x x' p q = p ∙ sym q

  pub cost_answer_from_u8_determined : Determined result (cost-answer-from-u8.Post κs)
  cost_answer_from_u8_determined i r r' x x' p q = p ∙ sym q

  pub cost_answer_from_option_bool_determined : Determined result (cost-answer-from-option-bool.Post κs)
  cost_answer_from_option_bool_determined i r r' x x' p q = p ∙ sym q

  pub cost_branch_cost_060_determined : Determined result (cost-branch-cost-060.Post κs)
  cost_branch_cost_060_determined i r r' x x' p q = p ∙ sym q

  pub branch_cache_branchcache060_update_determined : Determined result (branch-cache-branchcache060-update.Post κs)
  branch_cache_branchcache060_update_determined i r r' x x' p q = p ∙ sym q

  pub branch_cache_branchcache060_predict_determined : Determined result (branch-cache-branchcache060-predict.Post κs)
  branch_cache_branchcache060_predict_determined i r r' x x' p q = p ∙ sym q

  pub branch_cache_slot_hit_determined : Determined result (branch-cache-slot-hit.Post κs)
  branch_cache_slot_hit_determined i r r' x x' p q = p ∙ sym q

  pub branch_cache_slot_predict_determined : Determined result (branch-cache-slot-predict.Post κs)
  branch_cache_slot_predict_determined i r r' x x' p q = p ∙ sym q

  pub branch_cache_slot_update_determined : Determined result (branch-cache-slot-update.Post κs)
  branch_cache_slot_update_determined i r r' x x' p q = p ∙ sym q

  pub branch_cache_branchcache060_fresh_determined : Determined result (branch-cache-branchcache060-fresh.Post κs)
  branch_cache_branchcache060_fresh_determined i r r' x x' p q = p ∙ sym q

  pub branch_cache_branchcache060_slot_determined : Determined result (branch-cache-branchcache060-slot.Post κs)
  branch_cache_branchcache060_slot_determined i r r' x x' p q = p ∙ sym q

  pub branch_cache_branchcache060_clear_all_determined : Determined result (branch-cache-branchcache060-clear-all.Post κs)
  branch_cache_branchcache060_clear_all_determined i r r' x x' p q = p ∙ sym q

  pub branch_cache_branchcache060_clear_user_determined : Determined result (branch-cache-branchcache060-clear-user.Post κs)
  branch_cache_branchcache060_clear_user_determined i r r' x x' p q = p ∙ sym q

  pub window_window_shut_determined : Determined result (window-window-shut.Post κs)
  window_window_shut_determined i r r' x x' p q = p ∙ sym q

  pub window_window_seen_determined : Determined result (window-window-seen.Post κs)
  window_window_seen_determined i r r' x x' p q = p ∙ sym q

  pub window_fallback_cycles_determined : Determined result (window-fallback-cycles.Post κs)
  window_fallback_cycles_determined i r r' x x' p q = p ∙ sym q

  pub cost_taken_determined : Determined result (cost-taken.Post κs)
  cost_taken_determined i r r' x x' p q = p ∙ sym q

  pub window_memory_determined : Determined result (window-memory.Post κs)
  window_memory_determined i r r' x x' p q = p ∙ sym q

  pub window_failing_determined : Determined result (window-failing.Post κs)
  window_failing_determined i r r' x x' p q = p ∙ sym q

  pub window_soep_dispatch_test_determined : Determined result (window-soep-dispatch-test.Post κs)
  window_soep_dispatch_test_determined i r r' x x' p q = p ∙ sym q

  pub cost_charge_branch_determined : Determined result (cost-charge-branch.Post κs)
  cost_charge_branch_determined i r r' x x' p q = p ∙ sym q

  pub cost_flow_cost_determined : Determined result (cost-flow-cost.Post κs)
  cost_flow_cost_determined i r r' x x' p q = p ∙ sym q

  pub cost_charge_neither_determined : Determined result (cost-charge-neither.Post κs)
  cost_charge_neither_determined i r r' x x' p q = p ∙ sym q

  pub cost_charge_other_determined : Determined result (cost-charge-other.Post κs)
  cost_charge_other_determined i r r' x x' p q = p ∙ sym q

  pub step_looked_up_determined : Determined result (step-looked-up.Post κs)
  step_looked_up_determined i r r' x x' p q = p ∙ sym q

  pub step_cycles_060_determined : Determined result (step-cycles-060.Post κs)
  step_cycles_060_determined i r r' x x' p q = p ∙ sym q

  pub state_oep060timing_fresh_determined : Determined result (state-oep060timing-fresh.Post κs)
  state_oep060timing_fresh_determined i r r' x x' p q = p ∙ sym q

  pub state_oep060timing_seen_determined : Determined result (state-oep060timing-seen.Post κs)
  state_oep060timing_seen_determined i r r' x x' p q = p ∙ sym q

  pub state_oep060timing_broken_determined : Determined result (state-oep060timing-broken.Post κs)
  state_oep060timing_broken_determined i r r' x x' p q = p ∙ sym q

  pub state_oep060timing_clear_all_determined : Determined result (state-oep060timing-clear-all.Post κs)
  state_oep060timing_clear_all_determined i r r' x x' p q = p ∙ sym q

  pub state_oep060timing_clear_user_determined : Determined result (state-oep060timing-clear-user.Post κs)
  state_oep060timing_clear_user_determined i r r' x x' p q = p ∙ sym q

  pub refusals_number_determined : Determined result (refusals-number.Post κs)
  refusals_number_determined i r r' x x' p q = p ∙ sym q

  pub refusals_place_determined : Determined result (refusals-place.Post κs)
  refusals_place_determined i r r' x x' p q = p ∙ sym q

  pub refusals_refused_determined : Determined result (refusals-refused.Post κs)
  refusals_refused_determined i r r' x x' p q = p ∙ sym q

module _ (κs : Lifetimes.Lfts 2) where
  pub branch_cache_update_at_determined : Determined result (branch-cache-update-at.Post κs)
  branch_cache_update_at_determined i r r' x x' p q = p.0 ∙ sym q.0

  pub branch_cache_update_at_cache_determined : Determined (λ r x. cache_at x.0.now x.1.0.now) (branch-cache-update-at.Post κs)
  branch_cache_update_at_cache_determined i r r' x x' p q = p.1 ∙ sym q.1
