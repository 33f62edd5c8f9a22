-- Facts of every retirement, break and clear, from the laws of the crates below; and `cycles_060`'s own promise, as the checker reads it.
-- Assumes nothing.
use mathlib.Core.Path.{◌≡◌, refl, sym, ap, ◌∙◌}
use mathlib.Core.Logic.{◌↔◌}
use mathlib.Core.Bool.{true, ◌&&◌, ◌||◌}
use contract.Lifetimes
use Rattle.class_word.specs.declared.Clocks.{Clocks}
use Rattle.class_word.specs.Word.{clocks}
use Rattle.branch_cache.proofs.Laws.{cache_miss_keeps, slot_foreign_misses}
use Rattle.window.specs.Windows.{shut}
use Rattle.cost.specs.Cost.{cost_of}
use Rattle.window.proofs.Rules.{passes_simple}
use Rattle.cost.proofs.Zero.{pair_cost_lem, pair_costs_nothing_lem}
use Rattle.profile.specs.declared.Profile.{Profile}
use Rattle.state.specs.declared.Oep060Timing.{Oep060Timing}
use Rattle.state.specs.declared.Stepped.{Stepped}
use Rattle.state.specs.declared.Event.TheVariants.{Retired}
use Rattle.state.specs.Events.{retiring_of}
use Rattle.state.specs.Timing.{state_of, stepped_by}
use Rattle.step.specs.Boards.{board_of, after_of}
use Rattle.step.proofs.cycles_060.Reads as reads
use Rattle.promises.specs.Retirements.{EveryEvent}
use Rattle.promises.specs.Demand3.{joins, folds}
use Rattle.promises.proofs.Demand.{profile_sound, board_demand3}

pub every_event : (P : Profile) → EveryEvent P
unfolding stepped_by
every_event P =
    record {
      step_cost = λ t r. refl;
      step_state = λ t r. refl;
      step_answer = λ t r. refl;
      pair_cost = λ r p. pair_cost_lem r p.straight p.kept p.waiting p.passed;
      pair_costs_nothing = λ t r p. pair_costs_nothing_lem (retiring_of (board_of P) (state_of t) r) (profile_sound P r.op) p.kept p.waiting p.passed;
      passing_class = λ i k w p. (passes_simple i k w p).class0;
      passing_unindexed = λ i k w p. (passes_simple i k w p).unindexed;
      passing_classified = λ i k w p. (passes_simple i k w p).classified;
      passing_fixed = λ i k w p. (passes_simple i k w p).fixed;
      break_keeps_cache = λ t. refl;
      break_shuts = λ t. refl;
      clear_all_keeps_tags = λ t. refl;
      clear_all_keeps_window = λ t. refl;
      clear_user_keeps_tags = λ t. refl;
      clear_user_keeps_window = λ t. refl;
      miss_keeps = λ c pc m user. cache_miss_keeps c pc user m;
      foreign_misses = slot_foreign_misses;
    }

-- whatever `cycles_060` may hand back is the machine's cost and next state, so demand 3 is about it: here its first two sentences
module _ (κs : Lifetimes.Lfts 0) (a : _) (o : _) (x : _) (p : reads.Post κs a o x) where
  pub cycles_cost : o.cost ≡ clocks (cost_of (retiring_of (board_of a.0.profile) (state_of a.0.timing) a.1.0))
  unfolding stepped_by
  cycles_cost = ap (λ (s : Stepped). s.cost) p

  pub cycles_state : o.timing ≡ after_of a.0.profile a.0.timing (Retired a.1.0)
  unfolding stepped_by
  cycles_state = ap (λ (s : Stepped). s.timing) p

  pub cycles_zero : (o.cost ≡ clocks 0)
      ↔ ((a.0.timing.window.opened && (joins (board_of a.0.profile) (state_of a.0.timing) a.1.0 || folds (board_of a.0.profile) (state_of a.0.timing) a.1.0)) ≡ true)
  cycles_zero =
      let zero = (board_demand3 a.0.profile).zero_exactly (state_of a.0.timing) a.1.0 in
      (λ z. zero.0 (ap (λ (c : Clocks). c.0) (sym cycles_cost ∙ z)), λ h. cycles_cost ∙ ap clocks (zero.1 h))

  pub cycles_zero_shuts : o.cost ≡ clocks 0 → o.timing.window ≡ shut
  cycles_zero_shuts z =
      ap (λ (t : Oep060Timing). t.window) cycles_state
      ∙ (board_demand3 a.0.profile).then_shut (state_of a.0.timing) a.1.0 (ap (λ (c : Clocks). c.0) (sym cycles_cost ∙ z))
