-- Document 01, "Records and images": what a run of a trace gives, and what it leaves in the lent bytes. The Rust has
-- none.
--
-- In each, p is the profile that is chosen at start.
--   cost_bytes ns                   ==  the costs ns as bytes
--                                       "A trace run writes 4 bytes per retirement"; "Costs in bytes are little-endian"
--   costs_of p t es                 ==  what each retirement among the events es costs, from the state t as it is read
--   answers_of p t es               ==  what the cache predicted of each, as a number
--                                       document 02, R-5: "one byte a retirement into a second lent run"
--   next_of p t es                  ==  the state after the events es, from the state t as it is read
--   TraceOutcome                    ==  what is returned, together with the lent bytes afterwards, both runs
--   trace_outcome r lent            ==  the outcome of these two
--   ran_at k sum t                  ==  what is returned where the trace is accepted: k costs, their sum, and the next
--                                       state t
--   trace_accepted_of p es lent t   ==  the outcome where the trace is accepted
--                                       "gives the number of retirements and the 64-bit total"; "Places beyond the last
--                                       cost stay", and those beyond the last answer
--   trace_outcome_of p said lent t  ==  the outcome by what the trace said
--                                       "A refused run or batch .. writes no byte"
--   RoomFor trace lent              ==  the trace is within its limit and sound, and both lent runs have room for it
--   run_trace_of p trace lent t     ==  the outcome of a run of the trace into the lent bytes, both runs, from the
--                                       state t
use Rattle.std.specs.Prelude.{ℕ, ◌≤◌, List, length}
use Rattle.little_endian.specs.Numbers.{put_at, bytes_of_each}
use Rattle.profile.specs.declared.Profile.{Profile}
use Rattle.state.specs.declared.Event.{Event}
use Rattle.state.specs.declared.Oep060Timing.{Oep060Timing}
use Rattle.state.specs.Events.{costs, answers, finally, total, count_of}
use Rattle.step.specs.Boards.{board_of}
use Rattle.state.specs.Timing.{state_of, timing_of, seen_of}
use Rattle.refusals.specs.Verdict.{accepted}
use Rattle.refusals.specs.declared.outcome.Ran.{Ran}
use Rattle.refusals.specs.Refused.{refused_of}
use Rattle.refusals.specs.Runs.{Runs, runs, rooms_of}
use Rattle.records.specs.Trace.{Trace, events, refused, read_trace}
use Rattle.records.specs.Judged.{Fits, FitsAnswers, judged_trace}

abbrev pub cost_bytes : List ℕ → List ℕ
cost_bytes ns = bytes_of_each 4 ns

abbrev pub costs_of : Profile → Oep060Timing → List Event → List ℕ
costs_of p t es = costs (board_of p) (state_of (seen_of t)) es

abbrev pub answers_of : Profile → Oep060Timing → List Event → List ℕ
answers_of p t es = answers (board_of p) (state_of (seen_of t)) es

abbrev pub next_of : Profile → Oep060Timing → List Event → Oep060Timing
next_of p t es = timing_of (finally (board_of p) (state_of (seen_of t)) es)

pub record TraceOutcome : Type 0 where
  pub ran : Ran
  pub lent : Runs

abbrev pub trace_outcome : Ran → Runs → TraceOutcome
trace_outcome r lent = record { ran = r; lent = lent }

abbrev pub ran_at : ℕ → ℕ → Oep060Timing → Ran
ran_at k sum t = record { verdict = accepted; count = k; total = sum; timing = t }

abbrev pub trace_accepted_of : Profile → List Event → Runs → Oep060Timing → TraceOutcome
trace_accepted_of p es lent t =
    trace_outcome
    (ran_at (count_of es) (total (costs_of p t es)) (next_of p t es))
    (runs (put_at lent.costs 0 (cost_bytes (costs_of p t es))) (put_at lent.answers 0 (answers_of p t es)))

abbrev pub trace_outcome_of : Profile → Trace → Runs → Oep060Timing → TraceOutcome
trace_outcome_of p (events es) lent t = trace_accepted_of p es lent t
trace_outcome_of p (refused refusal) lent t = trace_outcome (refused_of refusal t) lent

pub record RoomFor (trace : List ℕ) (lent : Runs) : Type 0 where
  pub size : length trace ≤ 16777216
  pub fits : Fits 0 (length lent.costs) (read_trace trace)
  pub tells : FitsAnswers 0 (length lent.answers) (read_trace trace)

unfoldable pub run_trace_of : Profile → List ℕ → Runs → Oep060Timing → TraceOutcome
run_trace_of p trace lent t = trace_outcome_of p (judged_trace trace (rooms_of lent)) lent t
