-- Document 02, R-1: "one reason per retirement", over a trace. What a run gives that writes each retirement's reason
-- too, and what it leaves in the lent bytes: of costs, answers and state it is the trace run.
--
-- In each, p is the profile that is chosen at start.
--   reasons_of p t es              ==  the number of the reason of each retirement among the events es, from the state
--                                      t as it is read
--   with_places size places said   ==  what a trace of this size said, or refusal 7
--                                      "7 for under one reason place a retirement"
--   judged_why trace room places   ==  what the trace says, with so much room for costs and answers, and so many reason
--                                      places
--                                      "Refusals: those of the trace run"
--   ExplainOutcome                 ==  the outcome of the trace run, together with the lent reasons afterwards
--   explain_outcome o reasons      ==  these two
--   reasons_left p said reasons t  ==  the lent reasons afterwards, by what the trace said; places beyond the last
--                                      reason stay, and a refused run writes none
--   explain_outcome_by             ==  the outcome by what the trace said
--   explain_trace_of               ==  the outcome of a run of the trace into the lent bytes, all three runs, from the
--                                      state t
use Rattle.std.specs.Prelude.{ℕ, cond, List, map, ltb, length}
use Rattle.little_endian.specs.Numbers.{put_at}
use Rattle.cost.specs.Retiring.{Retiring}
use Rattle.profile.specs.declared.Profile.{Profile}
use Rattle.state.specs.declared.Event.{Event}
use Rattle.state.specs.declared.Oep060Timing.{Oep060Timing}
use Rattle.state.specs.Events.{retirements, count_of}
use Rattle.state.specs.Timing.{state_of, seen_of}
use Rattle.step.specs.Boards.{board_of}
use Rattle.refusals.specs.declared.Refusal.TheVariants.{Room}
use Rattle.refusals.specs.Runs.{Runs, Rooms, rooms_of}
use Rattle.records.specs.Trace.{Trace, events, refused}
use Rattle.records.specs.Judged.{judged_trace}
use Rattle.trace.specs.Run.{TraceOutcome, trace_outcome_of}
use Rattle.reasons.specs.Reasons.{reason_number, reason_of}

abbrev pub reasons_of : Profile → Oep060Timing → List Event → List ℕ
reasons_of p t es =
    map (λ (r : Retiring). reason_number (reason_of r)) (retirements (board_of p) (state_of (seen_of t)) es)

abbrev pub with_places : ℕ → ℕ → Trace → Trace
with_places size places (events es) = cond (ltb places (count_of es)) (refused (Room size)) (events es)
with_places size places (refused refusal) = refused refusal

unfoldable pub judged_why : List ℕ → Rooms → ℕ → Trace
judged_why trace room places = with_places (length trace) places (judged_trace trace room)

pub record ExplainOutcome : Type 0 where
  pub outcome : TraceOutcome
  pub reasons : List ℕ

abbrev pub explain_outcome : TraceOutcome → List ℕ → ExplainOutcome
explain_outcome o reasons = record { outcome = o; reasons = reasons }

abbrev pub reasons_left : Profile → Trace → List ℕ → Oep060Timing → List ℕ
reasons_left p (events es) reasons t = put_at reasons 0 (reasons_of p t es)
reasons_left p (refused refusal) reasons t = reasons

abbrev pub explain_outcome_by : Profile → Trace → Runs → List ℕ → Oep060Timing → ExplainOutcome
explain_outcome_by p said lent reasons t =
    explain_outcome (trace_outcome_of p said lent t) (reasons_left p said reasons t)

unfoldable pub explain_trace_of : Profile → List ℕ → Runs → List ℕ → Oep060Timing → ExplainOutcome
explain_trace_of p trace lent reasons t =
    explain_outcome_by p (judged_why trace (rooms_of lent) (length reasons)) lent reasons t
