-- The facts of every reason: of a retirement as it is met, and of a run by the laws of the crate reasons.
-- Assumes nothing.
use Prim.Native.Nat.{ℕ}
use mathlib.Core.Path.{◌≡◌, refl, sym, ap, ap₂, ◌∙◌}
use mathlib.Core.Bool.{Bool}
use mathlib.Core.List.{List, [], ◌∷◌, map}
use lib.ListN.{length, take}
use lib.Seq.{take_at}
use borrow.Author.Tests.{eqb-true, eq-eqb}
use Rattle.little_endian.specs.Numbers.{numbers_at, put_at}
use Rattle.cost.specs.Retiring.{Retiring}
use Rattle.profile.specs.declared.Profile.{Profile}
use Rattle.state.specs.declared.Event.{Event}
use Rattle.state.specs.declared.Event.TheVariants.{Retired, Broken, ClearedAll, ClearedUser}
use Rattle.state.specs.declared.Oep060Timing.{Oep060Timing}
use Rattle.state.specs.Board.{Board}
use Rattle.state.specs.Events.{State, retiring_of, after, retirements, costs, count_of}
use Rattle.state.specs.CrateCache.{crate_cache}
use Rattle.state.specs.Timing.{state_of, seen_of}
use Rattle.step.specs.Boards.{board_of}
use Rattle.refusals.specs.Runs.{Runs, rooms_of}
use Rattle.trace.specs.Run.{TraceOutcome, run_trace_of}
use Rattle.trace.proofs.Parts.{each_count}
use Rattle.trace.proofs.Refused.{run_accepted}
use Rattle.reasons.specs.Reasons.{reason_number, reason_of}
use Rattle.reasons.specs.Fits.{costs_nothing}
use Rattle.reasons.specs.ExplainRun.{reasons_of, ExplainOutcome, explain_outcome, explain_trace_of}
use Rattle.reasons.specs.ExplainTable.{AcceptsWhy}
use Rattle.reasons.proofs.Exactly.{exactly_one_lem, earlier_passed_lem}
use Rattle.reasons.proofs.Costs.{zero_told, fixed_cost_lem}
use Rattle.reasons.proofs.Refused.{explain_accepted, explain_accepted_only, explain_keeps, explain_gives, explain_gives_only}
use Rattle.promises.specs.Demand3.{Sound}
use Rattle.promises.specs.Moving.{meetings, is_zero}
use Rattle.promises.specs.Why.{reasons_in, EveryReason, reason_at, free_number, EveryWhy}
use Rattle.promises.proofs.Demand.{profile_sound}
use Rattle.promises.proofs.Moving.{stand}

module _ (B : Board) (ok : Sound B) where
  zeros : (s : State B.rule) (es : List Event) → map is_zero (costs B s es) ≡ map costs_nothing (reasons_in B s es)
  unfolding retirements
  zeros s [] = refl
  zeros s (Retired r ∷ es) = ap₂ (λ (b : Bool) (bs : List Bool). b ∷ bs) (zero_told (retiring_of B s r) (ok r.op)) (zeros (after B s (Retired r)) es)
  zeros s (Broken ∷ es) = zeros (after B s Broken) es
  zeros s (ClearedAll ∷ es) = zeros (after B s ClearedAll) es
  zeros s (ClearedUser ∷ es) = zeros (after B s ClearedUser) es

  pub every_reason : EveryReason B
  every_reason =
      record {
        exactly_one = λ s r. exactly_one_lem (retiring_of B s r);
        earlier_passed = λ s r rule e. (earlier_passed_lem (retiring_of B s r) rule e).0;
        rule_failed = λ s r rule e. (earlier_passed_lem (retiring_of B s r) rule e).1;
        fixed = λ s r n. fixed_cost_lem (retiring_of B s r) (ok r.op);
        zero_exactly = λ s r. (
          λ z. sym (zero_told (retiring_of B s r) (ok r.op)) ∙ eq-eqb _ _ z,
          λ h. eqb-true _ _ (zero_told (retiring_of B s r) (ok r.op) ∙ h),
        );
        zeros = zeros;
      }

met : (P : Profile) (s : State crate_cache) (es : List Event) → map (λ (r : Retiring). reason_number (reason_of r)) (retirements (board_of P) s es) ≡ map (reason_at P) (meetings P s es)
unfolding retirements
met P s [] = refl
met P s (Retired r ∷ es) = ap (λ (ns : List ℕ). reason_at P (record { state = s; retirement = r }) ∷ ns) (met P (after (board_of P) s (Retired r)) es)
met P s (Broken ∷ es) = met P (after (board_of P) s Broken) es
met P s (ClearedAll ∷ es) = met P (after (board_of P) s ClearedAll) es
met P s (ClearedUser ∷ es) = met P (after (board_of P) s ClearedUser) es

-- the number of a reason tells whether it is paired or folded
by_number : (rs : List Retiring) → map costs_nothing (map reason_of rs) ≡ map free_number (map (λ (r : Retiring). reason_number (reason_of r)) rs)
by_number [] = refl
by_number (r ∷ rs) = ap (λ (bs : List Bool). costs_nothing (reason_of r) ∷ bs) (by_number rs)

module _ (P : Profile) (trace : List ℕ) (lent : Runs) (reasons : List ℕ) (t : Oep060Timing) (es : List Event) (ok : AcceptsWhy trace (rooms_of lent) (length reasons) es) where
  the_run : explain_trace_of P trace lent reasons t ≡ explain_outcome (run_trace_of P trace lent t) (put_at reasons 0 (reasons_of P t es))
  the_run =
      explain_accepted P trace lent reasons t ok
      ∙ ap (λ (o : TraceOutcome). explain_outcome o (put_at reasons 0 (reasons_of P t es))) (sym (run_accepted P trace lent t ok.run))

  told : take (count_of es) (explain_trace_of P trace lent reasons t).reasons ≡ reasons_of P t es
  unfolding put_at
  told =
      ap (λ (o : ExplainOutcome). take (count_of es) o.reasons) the_run
      ∙ take_at (reasons_of P t es) _ (count_of es) (each_count (board_of P) (λ (r : Retiring). reason_number (reason_of r)) (state_of (seen_of t)) es)

  trace_zeros_lem : map is_zero (numbers_at (count_of es) 4 (explain_trace_of P trace lent reasons t).outcome.lent.costs 0) ≡ map free_number (take (count_of es) (explain_trace_of P trace lent reasons t).reasons)
  trace_zeros_lem =
      ap (λ (o : ExplainOutcome). map is_zero (numbers_at (count_of es) 4 o.outcome.lent.costs 0)) the_run
      ∙ ap (map is_zero) (stand P trace lent t es ok.run)
      ∙ zeros (board_of P) (profile_sound P) (state_of (seen_of t)) es
      ∙ by_number (retirements (board_of P) (state_of (seen_of t)) es)
      ∙ sym (ap (map free_number) told)

pub every_why : (P : Profile) → EveryWhy P
every_why P =
    record {
      board = every_reason (board_of P) (profile_sound P);
      given = λ trace lent reasons t n p. (explain_gives_only P trace lent reasons t, explain_gives P trace lent reasons t);
      refused_keeps = explain_keeps P;
      accepted_then = the_run P;
      accepted_only = explain_accepted_only P;
      trace_reasons = λ trace lent reasons t es ok. told P trace lent reasons t es ok ∙ met P (state_of (seen_of t)) es;
      trace_zeros = trace_zeros_lem P;
    }
