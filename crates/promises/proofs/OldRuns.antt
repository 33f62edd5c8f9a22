-- No cost moves: where the second run has room, or the first test refuses, the test of both rooms is the test of the first, and the rest is by definition.
-- Assumes nothing.
use Prim.Native.Nat.{ℕ, ◌*◌}
use mathlib.Core.Path.{◌≡◌, refl, sym, ap, ◌∙◌}
use mathlib.Core.Bool.{Bool, true, false, cond, ◌||◌, true≢false}
use mathlib.Core.List.{List}
use lib.Dec.{ltb}
use borrow.Author.Tests.{not-true}
use Rattle.std.proofs.Math.Bool.{or-false}
use lib.ListN.{length}
use Rattle.std.specs.Prelude.{Ok, Err}
use Rattle.profile.specs.declared.Profile.{Profile}
use Rattle.state.specs.declared.Retirement.{Retirement}
use Rattle.state.specs.declared.Oep060Timing.{Oep060Timing}
use Rattle.state.specs.Events.{count_of}
use Rattle.state.specs.Timing.{stepped_by}
use Rattle.refusals.specs.declared.Refusal.TheVariants.{Oversized, Room}
use Rattle.refusals.specs.Given.{is_accepted}
use Rattle.refusals.specs.Runs.{Runs, rooms_of}
use Rattle.refusals.specs.Verdict.{Verdict, accepted}
use Rattle.records.specs.Trace.{Trace, events, refused, read_trace}
use Rattle.records.specs.Judged.{with_room, judged_trace, verdict_of}
use Rattle.trace.specs.Run.{trace_outcome_of, run_trace_of}
use Rattle.batch.specs.Judge.{batch_verdict_of}
use Rattle.batch.specs.Batch.{batch_outcome_by, batch_of}
use Rattle.in_place.specs.Lent.{Lent, state_at}
use Rattle.host.specs.HostWords.{retirements_of}
use Rattle.promises.specs.OldRuns.{
  old_with_room,
  old_judged_trace,
  OldTraceOutcome,
  old_trace_outcome,
  old_trace_outcome_of,
  old_run_trace_of,
  old_batch_verdict_of,
  OldBatchOutcome,
  old_batch_outcome,
  old_batch_outcome_by,
  old_batch_of,
  OldHostOutcome,
  old_host_outcome_of,
  has_room,
  OldRuns,
}

-- the verdict of an outcome is that of what the trace said
verdict_said : (P : Profile) (lent : List ℕ) (t : Oep060Timing) (said : Trace) → (old_trace_outcome_of P said lent t).ran.verdict ≡ verdict_of said
verdict_said P lent t (events es) = refl
verdict_said P lent t (refused refusal) = refl

verdict_by : (P : Profile) (rs : List Retirement) (ps : List ℕ) (t : Oep060Timing) (v : Verdict) → (old_batch_outcome_by P v rs ps t).ran.verdict ≡ v
verdict_by P rs ps t (Ok done) = refl
verdict_by P rs ps t (Err refusal) = refl

module _ (P : Profile) (lent : Runs) (t : Oep060Timing) where
  abbrev n : ℕ
  n = length lent.costs

  with_same : (size : ℕ) (said : Trace) → has_room said (length lent.answers) ≡ true → with_room size (rooms_of lent) said ≡ old_with_room size n said
  with_same size (events es) h =
      simp (not-true (ltb (length lent.answers) (count_of es)) h, or-false)
  with_same size (refused refusal) h = refl

  with_refused : (size : ℕ) (said : Trace) → is_accepted (verdict_of (old_with_room size n said)) ≡ false → with_room size (rooms_of lent) said ≡ old_with_room size n said
  with_refused size (events es) = go (ltb n (4 * count_of es))
    where
      go : (a : Bool) → is_accepted (verdict_of (cond a (refused (Room size)) (events es))) ≡ false
          → ◌≡◌ {A = Trace} (cond (a || ltb (length lent.answers) (count_of es)) (refused (Room size)) (events es)) (cond a (refused (Room size)) (events es))
      go true h = refl
      go false h = absurd (true≢false h)
  with_refused size (refused refusal) = λ h. refl

  judged_refused : (trace : List ℕ) → is_accepted (verdict_of (old_judged_trace trace n)) ≡ false → judged_trace trace (rooms_of lent) ≡ old_judged_trace trace n
  unfolding judged_trace
  judged_refused trace = go (ltb 16777216 (length trace))
    where
      go : (o : Bool) → is_accepted (verdict_of (cond o (refused Oversized) (old_with_room (length trace) n (read_trace trace)))) ≡ false
          → cond o (refused Oversized) (with_room (length trace) (rooms_of lent) (read_trace trace)) ≡ cond o (refused Oversized) (old_with_room (length trace) n (read_trace trace))
      go true h = refl
      go false h = with_refused (length trace) (read_trace trace) h

  outcome_same : (said : Trace) → old_trace_outcome (trace_outcome_of P said lent t).ran (trace_outcome_of P said lent t).lent.costs ≡ old_trace_outcome_of P said lent.costs t
  outcome_same (events es) = refl
  outcome_same (refused refusal) = refl

  run_same : (trace : List ℕ) → judged_trace trace (rooms_of lent) ≡ old_judged_trace trace n
      → old_trace_outcome (run_trace_of P trace lent t).ran (run_trace_of P trace lent t).lent.costs ≡ old_run_trace_of P trace lent.costs t
  unfolding run_trace_of
  run_same trace e = outcome_same (judged_trace trace (rooms_of lent)) ∙ ap (λ (said : Trace). old_trace_outcome_of P said lent.costs t) e

  judged_same : (trace : List ℕ) → has_room (read_trace trace) (length lent.answers) ≡ true → judged_trace trace (rooms_of lent) ≡ old_judged_trace trace n
  unfolding judged_trace
  judged_same trace h = ap (λ (said : Trace). cond (ltb 16777216 (length trace)) (refused Oversized) said) (with_same (length trace) (read_trace trace) h)

  verdict_refused : (rs : List Retirement) → is_accepted (old_batch_verdict_of (length rs) n) ≡ false → batch_verdict_of (length rs) (rooms_of lent) ≡ old_batch_verdict_of (length rs) n
  unfolding batch_verdict_of
  verdict_refused rs = go (ltb 1048576 (length rs)) (ltb n (length rs))
    where
      go : (o a : Bool) → is_accepted (cond o (Err Oversized) (cond a (Err (Room 0)) accepted)) ≡ false
          → ◌≡◌ {A = Verdict} (cond o (Err Oversized) (cond (a || ltb (length lent.answers) (length rs)) (Err (Room 0)) accepted)) (cond o (Err Oversized) (cond a (Err (Room 0)) accepted))
      go true a h = refl
      go false true h = refl
      go false false h = absurd (true≢false h)

  verdict_same : (rs : List Retirement) → ltb (length lent.answers) (length rs) ≡ false → batch_verdict_of (length rs) (rooms_of lent) ≡ old_batch_verdict_of (length rs) n
  unfolding batch_verdict_of
  verdict_same rs h = simp (h, or-false)

  by_same : (v : Verdict) (rs : List Retirement) → old_batch_outcome (batch_outcome_by P v rs lent t).ran (batch_outcome_by P v rs lent t).lent.costs ≡ old_batch_outcome_by P v rs lent.costs t
  by_same (Ok done) rs = refl
  by_same (Err refusal) rs = refl

  batch_same : (rs : List Retirement) → batch_verdict_of (length rs) (rooms_of lent) ≡ old_batch_verdict_of (length rs) n
      → old_batch_outcome (batch_of P rs lent t).ran (batch_of P rs lent t).lent.costs ≡ old_batch_of P rs lent.costs t
  unfolding batch_of
  batch_same rs e = by_same (batch_verdict_of (length rs) (rooms_of lent)) rs ∙ ap (λ (v : Verdict). old_batch_outcome_by P v rs lent.costs t) e

  trace_refused_lem : (trace : List ℕ) → is_accepted (old_run_trace_of P trace lent.costs t).ran.verdict ≡ false
      → old_trace_outcome (run_trace_of P trace lent t).ran (run_trace_of P trace lent t).lent.costs ≡ old_run_trace_of P trace lent.costs t
  trace_refused_lem trace h = run_same trace (judged_refused trace (ap is_accepted (sym (verdict_said P lent.costs t (old_judged_trace trace n))) ∙ h))

  batch_refused_lem : (rs : List Retirement) → is_accepted (old_batch_of P rs lent.costs t).ran.verdict ≡ false
      → old_batch_outcome (batch_of P rs lent t).ran (batch_of P rs lent t).lent.costs ≡ old_batch_of P rs lent.costs t
  batch_refused_lem rs h = batch_same rs (verdict_refused rs (ap is_accepted (sym (verdict_by P rs lent.costs t (old_batch_verdict_of (length rs) n))) ∙ h))

-- what a host sees of either
abbrev seen_run : Lent → OldTraceOutcome → OldHostOutcome
seen_run l o = old_host_outcome_of l o.ran o.bytes

abbrev seen_batch : Lent → OldBatchOutcome → OldHostOutcome
seen_batch l o = old_host_outcome_of l o.ran o.places

pub old_runs : (P : Profile) → OldRuns P
unfolding stepped_by
old_runs P =
    record {
      step = λ t r. refl;
      trace = λ trace lent t h. run_same P lent t trace (judged_same P lent t trace h);
      batch = λ rs lent t h. batch_same P lent t rs (verdict_same P lent t rs h);
      trace_refused = λ trace lent t h. trace_refused_lem P lent t trace h;
      batch_refused = λ rs lent t h. batch_refused_lem P lent t rs h;
      host_step = λ l r. refl;
      host_trace = λ trace lent l h. ap (seen_run l) (run_same P lent (state_at l) trace (judged_same P lent (state_at l) trace h));
      host_batch = λ ws lent l h. ap (seen_batch l) (batch_same P lent (state_at l) (retirements_of ws) (verdict_same P lent (state_at l) (retirements_of ws) h));
      host_trace_refused = λ trace lent l h. ap (seen_run l) (trace_refused_lem P lent (state_at l) trace h);
      host_batch_refused = λ ws lent l h. ap (seen_batch l) (batch_refused_lem P lent (state_at l) (retirements_of ws) h);
    }
