-- The step, the runs and the batches as they were defined before document 02's R-5, kept for this: "No cost moves."
-- They are lent no second run, and tell nothing of the cache's answer. Each is the definition of its name, without
-- "old", as it stood; what they name of others has not moved.
--
-- In each, p is the profile. OldStepped, OldPaid and the three outcomes are what the definitions give.
--   old_stepped_by t i r                 ==  the whole state and the cost after an instruction retires as r
--   old_stepped_of p t r                 ==  the same after a retirement
--   old_paid_of s                        ==  what a retirement costs, together with every lent number afterwards
--   old_retire_at_of p l r               ==  the retirement r on the lent numbers l
--   old_with_room size room said         ==  what a trace of this size said, or refusal 7
--                                            "under 4 bytes a retirement"; place "trace length"
--   old_judged_trace trace room          ==  what the trace says, refusals by size included
--   old_trace_outcome r bytes            ==  what is returned, together with the lent bytes afterwards
--   old_trace_accepted_of p es lent t    ==  the outcome where the trace is accepted
--   old_trace_outcome_of p said lent t   ==  the outcome by what the trace said
--   old_run_trace_of p trace lent t      ==  the outcome of a run of the trace into the lent bytes from the state t
--   old_batch_verdict_of n m             ==  the verdict on n records with m places
--   old_batch_outcome ran ps             ==  what is returned, and every lent place afterwards
--   old_batch_accepted_of p rs ps t      ==  the records rs run from the state t, as it is read, with the lent places
--                                            ps
--   old_batch_outcome_by p v rs ps t     ==  by the verdict: run; or refused
--   old_batch_of p rs ps t               ==  the batch of the records rs with the lent places ps from the state t
--   old_host_outcome ran places l        ==  what a host is given, together with every lent number afterwards
--   old_host_outcome_of l ran places     ==  the same of a run on the lent numbers l
--   old_run_trace_at_of p trace costs l  ==  a host's run of a trace
--   old_run_batch_at_of p ws places l    ==  a host's batch of words
--   without_answers o                    ==  of what a host is given, what it was given before
--   has_room said n                      ==  a second run of n bytes has room for what the trace said: one byte a
--                                            retirement
--   OldRuns p                            ==  the facts: wherever the second run has room, all of it is as it was; and
--                                            what was refused before is refused so whatever room the second run has
use Rattle.std.specs.Prelude.{ℕ, ◌*◌, ◌≡◌, Bool, true, false, not, cond, List, ◌++◌, Ok, Err, ltb, length, drop}
use Rattle.little_endian.specs.Numbers.{put_at}
use Rattle.class_word.specs.declared.Clocks.{Clocks}
use Rattle.class_word.specs.Word.{clocks}
use Rattle.window.specs.declared.dispatch.Instruction.{Instruction}
use Rattle.cost.specs.Cost.{cost_of}
use Rattle.profile.specs.declared.Profile.{Profile}
use Rattle.profile.specs.Profile.{profile_of}
use Rattle.state.specs.declared.Retirement.{Retirement}
use Rattle.state.specs.declared.Event.{Event}
use Rattle.state.specs.declared.Oep060Timing.{Oep060Timing}
use Rattle.state.specs.Events.{as_met, past, costs, finally, total, count_of}
use Rattle.state.specs.CrateCache.{crate_cache}
use Rattle.state.specs.Timing.{state_of, timing_of, seen_of}
use Rattle.step.specs.Boards.{board_of, stepped_of}
use Rattle.in_place.specs.Lent.{Lent, state_at, lent_of}
use Rattle.in_place.specs.Retire.{retire_at_of}
use Rattle.refusals.specs.declared.Refusal.TheVariants.{Oversized, Room}
use Rattle.refusals.specs.declared.outcome.Ran.{Ran}
use Rattle.refusals.specs.Given.{is_accepted}
use Rattle.refusals.specs.Refused.{refused_of}
use Rattle.refusals.specs.Runs.{Runs}
use Rattle.refusals.specs.Verdict.{Verdict, accepted}
use Rattle.records.specs.Trace.{Trace, events, refused, read_trace}
use Rattle.trace.specs.Run.{cost_bytes, costs_of, next_of, ran_at, run_trace_of}
use Rattle.batch.specs.Batch.{events_of, batch_of}
use Rattle.host.specs.declared.results.HostRan.{HostRan}
use Rattle.host.specs.HostRan.{HostOutcome, host_ran_of, lent_after}
use Rattle.host.specs.HostRuns.{run_trace_at_of}
use Rattle.host.specs.HostWords.{retirements_of, run_batch_at_of}

pub record OldStepped : Type 0 where
  pub timing : Oep060Timing
  pub cost : Clocks

abbrev pub old_stepped_by : Oep060Timing → Instruction → Retirement → OldStepped
old_stepped_by t i r = record {
  timing = timing_of (past crate_cache (state_of t) i r);
  cost = clocks (cost_of (as_met crate_cache (state_of t) i r));
}

abbrev pub old_stepped_of : Profile → Oep060Timing → Retirement → OldStepped
old_stepped_of p t r = old_stepped_by t (profile_of p r.op) r

pub record OldPaid : Type 0 where
  pub cost : Clocks
  pub lent : Lent

abbrev pub old_paid_of : OldStepped → OldPaid
old_paid_of s = record { cost = s.cost; lent = lent_of s.timing }

abbrev pub old_retire_at_of : Profile → Lent → Retirement → OldPaid
old_retire_at_of p l r = old_paid_of (old_stepped_of p (state_at l) r)

abbrev pub old_with_room : ℕ → ℕ → Trace → Trace
old_with_room size room (events es) = cond (ltb room (4 * count_of es)) (refused (Room size)) (events es)
old_with_room size room (refused refusal) = refused refusal

abbrev pub old_judged_trace : List ℕ → ℕ → Trace
old_judged_trace trace room = cond (ltb 16777216 (length trace)) (refused Oversized) (old_with_room
    (length trace) room (read_trace trace))

pub record OldTraceOutcome : Type 0 where
  pub ran : Ran
  pub bytes : List ℕ

abbrev pub old_trace_outcome : Ran → List ℕ → OldTraceOutcome
old_trace_outcome r bytes = record { ran = r; bytes = bytes }

abbrev pub old_trace_accepted_of : Profile → List Event → List ℕ → Oep060Timing → OldTraceOutcome
old_trace_accepted_of p es lent t =
    old_trace_outcome (ran_at (count_of es) (total (costs_of p t es)) (next_of p t es))
    (put_at lent 0 (cost_bytes (costs_of p t es)))

abbrev pub old_trace_outcome_of : Profile → Trace → List ℕ → Oep060Timing → OldTraceOutcome
old_trace_outcome_of p (events es) lent t = old_trace_accepted_of p es lent t
old_trace_outcome_of p (refused refusal) lent t = old_trace_outcome (refused_of refusal t) lent

abbrev pub old_run_trace_of : Profile → List ℕ → List ℕ → Oep060Timing → OldTraceOutcome
old_run_trace_of p trace lent t = old_trace_outcome_of p (old_judged_trace trace (length lent)) lent t

abbrev pub old_batch_verdict_of : ℕ → ℕ → Verdict
old_batch_verdict_of n m = cond (ltb 1048576 n) (Err Oversized) (cond (ltb m n) (Err (Room 0)) accepted)

pub record OldBatchOutcome : Type 0 where
  pub ran : Ran
  pub places : List ℕ

abbrev pub old_batch_outcome : Ran → List ℕ → OldBatchOutcome
old_batch_outcome ran ps = record { ran = ran; places = ps }

abbrev pub old_batch_accepted_of : Profile → List Retirement → List ℕ → Oep060Timing → OldBatchOutcome
old_batch_accepted_of p rs ps t =
    let s = state_of (seen_of t) in
    let paid = costs (board_of p) s (events_of rs) in
    old_batch_outcome
    (record {
      verdict = accepted;
      count = length rs;
      total = total paid;
      timing = timing_of (finally (board_of p) s (events_of rs));
    })
    (paid ++ drop (length rs) ps)

abbrev pub old_batch_outcome_by : Profile → Verdict → List Retirement → List ℕ → Oep060Timing → OldBatchOutcome
old_batch_outcome_by p (Ok done) rs ps t = old_batch_accepted_of p rs ps t
old_batch_outcome_by p (Err refusal) rs ps t = old_batch_outcome (refused_of refusal t) ps

abbrev pub old_batch_of : Profile → List Retirement → List ℕ → Oep060Timing → OldBatchOutcome
old_batch_of p rs ps t = old_batch_outcome_by p (old_batch_verdict_of (length rs) (length ps)) rs ps t

pub record OldHostOutcome : Type 0 where
  pub ran : HostRan
  pub places : List ℕ
  pub lent : Lent

abbrev pub old_host_outcome : HostRan → List ℕ → Lent → OldHostOutcome
old_host_outcome ran places l = record { ran = ran; places = places; lent = l }

abbrev pub old_host_outcome_of : Lent → Ran → List ℕ → OldHostOutcome
old_host_outcome_of l ran places =
    old_host_outcome (host_ran_of ran.verdict ran.count ran.total) places
    (lent_after ran.verdict l ran.timing)

abbrev pub old_run_trace_at_of : Profile → List ℕ → List ℕ → Lent → OldHostOutcome
old_run_trace_at_of p trace costs l =
    let o = old_run_trace_of p trace costs (state_at l) in old_host_outcome_of l o.ran o.bytes

abbrev pub old_run_batch_at_of : Profile → List ℕ → List ℕ → Lent → OldHostOutcome
old_run_batch_at_of p ws places l =
    let o = old_batch_of p (retirements_of ws) places (state_at l) in old_host_outcome_of l o.ran o.places

abbrev pub has_room : Trace → ℕ → Bool
has_room (events es) n = not (ltb n (count_of es))
has_room (refused refusal) n = true

abbrev pub without_answers : HostOutcome → OldHostOutcome
without_answers o = old_host_outcome o.ran o.runs.costs o.lent

pub record OldRuns (p : Profile) : Type 0 where
  -- of a step: its cost and its next state
  pub step : (t : Oep060Timing) (r : Retirement)
      → ◌≡◌ {A = OldStepped} (record { timing = (stepped_of p t r).timing; cost = (stepped_of p t r).cost })
      (old_stepped_of p t r)
  -- of a run: the refusal, the count, the total, the next state and every byte lent for the costs
  pub trace : (trace : List ℕ) (lent : Runs) (t : Oep060Timing)
      → has_room (read_trace trace) (length lent.answers) ≡ true
      → old_trace_outcome (run_trace_of p trace lent t).ran (run_trace_of p trace lent t).lent.costs
      ≡ old_run_trace_of p trace lent.costs t
  -- of a batch: the same, with every place lent for the costs
  pub batch : (rs : List Retirement) (lent : Runs) (t : Oep060Timing)
      → ltb (length lent.answers) (length rs) ≡ false
      → old_batch_outcome (batch_of p rs lent t).ran (batch_of p rs lent t).lent.costs ≡ old_batch_of p rs lent.costs t
  -- what was refused before is refused so with any second run
  pub trace_refused : (trace : List ℕ) (lent : Runs) (t : Oep060Timing)
      → is_accepted (old_run_trace_of p trace lent.costs t).ran.verdict ≡ false
      → old_trace_outcome (run_trace_of p trace lent t).ran (run_trace_of p trace lent t).lent.costs
      ≡ old_run_trace_of p trace lent.costs t
  pub batch_refused : (rs : List Retirement) (lent : Runs) (t : Oep060Timing)
      → is_accepted (old_batch_of p rs lent.costs t).ran.verdict ≡ false
      → old_batch_outcome (batch_of p rs lent t).ran (batch_of p rs lent t).lent.costs ≡ old_batch_of p rs lent.costs t
  -- of a host's step, run and batch: the same, with every number lent for the state
  pub host_step : (l : Lent) (r : Retirement)
      → ◌≡◌ {A = OldPaid} (record { cost = (retire_at_of p l r).cost; lent = (retire_at_of p l r).lent })
      (old_retire_at_of p l r)
  pub host_trace : (trace : List ℕ) (lent : Runs) (l : Lent)
      → has_room (read_trace trace) (length lent.answers) ≡ true
      → without_answers (run_trace_at_of p trace lent l) ≡ old_run_trace_at_of p trace lent.costs l
  pub host_batch : (ws : List ℕ) (lent : Runs) (l : Lent)
      → ltb (length lent.answers) (length (retirements_of ws)) ≡ false
      → without_answers (run_batch_at_of p ws lent l) ≡ old_run_batch_at_of p ws lent.costs l
  pub host_trace_refused : (trace : List ℕ) (lent : Runs) (l : Lent)
      → is_accepted (old_run_trace_of p trace lent.costs (state_at l)).ran.verdict ≡ false
      → without_answers (run_trace_at_of p trace lent l) ≡ old_run_trace_at_of p trace lent.costs l
  pub host_batch_refused : (ws : List ℕ) (lent : Runs) (l : Lent)
      → is_accepted (old_batch_of p (retirements_of ws) lent.costs (state_at l)).ran.verdict ≡ false
      → without_answers (run_batch_at_of p ws lent l) ≡ old_run_batch_at_of p ws lent.costs l
