-- The facts of every batch, from the laws of the crates batch and trace.
-- Assumes nothing.
use Prim.Native.Nat.{ℕ, suc, ◌≤◌}
use mathlib.Core.Path.{◌≡◌, refl, sym, ap, ◌∙◌}
use mathlib.Core.List.{List, [], ◌∷◌}
use native.Mathlib.Omega.{arith}
use borrow.Author.Tests.{le-ltb}
use lib.ListN.{length, drop, take}
use lib.Seq.{take_at}
use Rattle.profile.specs.declared.Profile.{Profile}
use Rattle.state.specs.declared.Oep060Timing.{Oep060Timing}
use Rattle.state.specs.declared.Retirement.{Retirement}
use Rattle.cost.specs.Cost.{cost_of, predicted_of}
use Rattle.state.specs.Events.{count_of}
use Rattle.step.specs.Boards.{board_of}
use Rattle.state.specs.Timing.{state_of, seen_of}
use Rattle.refusals.specs.Runs.{Runs, rooms_of}
use Rattle.refusals.specs.Verdict.{accepted}
use Rattle.little_endian.specs.Numbers.{put_at}
use Rattle.trace.specs.Run.{cost_bytes, costs_of, answers_of, next_of, run_trace_of}
use Rattle.records.specs.TraceTable.{Accepts}
use Rattle.trace.proofs.Refused.{run_accepted}
use Rattle.trace.proofs.Bounds.{accepted_few}
use Rattle.trace.proofs.Parts.{each_count}
use Rattle.batch.specs.Judge.{batch_verdict_of}
use Rattle.batch.specs.Batch.{events_of, batch_accepted_of, batch_of}
use Rattle.batch.proofs.Refusals.{batch_gives_1, batch_gives_7, batch_accepts}
use Rattle.promises.specs.Batches.{EveryBatch}

pub all_count : (rs : List Retirement) → count_of (events_of rs) ≡ length rs
all_count [] = refl
all_count (r ∷ rs) = ap suc (all_count rs)

module _ (P : Profile) (trace : List ℕ) (lent ps : Runs) (t : Oep060Timing) (rs : List Retirement) (ok : Accepts trace (rooms_of lent) (events_of rs)) (room : length rs ≤ length ps.costs) (told : length rs ≤ length ps.answers) where
  batch_accepted : batch_of P rs ps t ≡ batch_accepted_of P rs ps t
  unfolding batch_of batch_verdict_of
  batch_accepted =
      rw (le-ltb 1048576 (length rs) (omega (arith, all_count rs, accepted_few trace (rooms_of lent) ok)), le-ltb (length ps.costs) (length rs) room, le-ltb (length ps.answers) (length rs) told)

  as_trace_lem : (batch_of P rs ps t).ran ≡ (run_trace_of P trace lent t).ran
  as_trace_lem =
      rw (batch_accepted, run_accepted P trace lent t ok)
      (ap (λ (n : ℕ). record { verdict = accepted; count = n; total = (batch_accepted_of P rs ps t).ran.total; timing = next_of P t (events_of rs) }) (sym (all_count rs)))

  as_trace_costs_lem : (run_trace_of P trace lent t).lent.costs ≡ put_at lent.costs 0 (cost_bytes (take (length rs) (batch_of P rs ps t).lent.costs))
  as_trace_costs_lem =
      rw (batch_accepted, run_accepted P trace lent t ok)
      (ap (λ (ns : List ℕ). put_at lent.costs 0 (cost_bytes ns))
      (sym (take_at (costs_of P t (events_of rs)) (drop (length rs) ps.costs) (length rs) (each_count (board_of P) cost_of (state_of (seen_of t)) (events_of rs) ∙ all_count rs))))

  as_trace_answers_lem : (run_trace_of P trace lent t).lent.answers ≡ put_at lent.answers 0 (take (length rs) (batch_of P rs ps t).lent.answers)
  as_trace_answers_lem =
      rw (batch_accepted, run_accepted P trace lent t ok)
      (ap (put_at lent.answers 0)
      (sym (take_at (answers_of P t (events_of rs)) (drop (length rs) ps.answers) (length rs) (each_count (board_of P) predicted_of (state_of (seen_of t)) (events_of rs) ∙ all_count rs))))

pub every_batch : (P : Profile) → EveryBatch P
every_batch P =
    record {
      given1 = λ rs lent t. batch_gives_1 P rs lent t;
      given7 = λ rs lent t. batch_gives_7 P rs lent t;
      taken = λ rs lent t. batch_accepts P rs lent t;
      as_trace = as_trace_lem P;
      as_trace_costs = as_trace_costs_lem P;
      as_trace_answers = as_trace_answers_lem P;
    }
