-- Document 01, "Records and images": the batch. The Rust has none.
--
-- In each, p is the profile that is chosen at start.
--   BatchOutcome                   ==  what is returned, and every lent place afterwards, both runs
--   batch_outcome ran lent         ==  the outcome of these two
--   events_of rs                   ==  the records as events: each a retirement
--   batch_accepted_of p rs lent t  ==  the records rs run from the state t, as it is read, with the two lent runs
--                                      "does the same into 32-bit places"; "Places beyond the last cost stay"; document
--                                      02, R-5: "one byte a retirement into a second lent run"
--   batch_outcome_by p v           ==  by the verdict: run; or refused
--                                      "A refused run or batch returns count 0, total 0 and the state it was given, and
--                                      writes no byte"
--   batch_of p rs lent t           ==  the batch of the records rs with the two lent runs from the state t
use Rattle.std.specs.Prelude.{Err, List, map, Ok, ◌++◌, length, drop}
use Rattle.profile.specs.declared.Profile.{Profile}
use Rattle.state.specs.declared.Retirement.{Retirement}
use Rattle.state.specs.declared.Event.{Event}
use Rattle.state.specs.declared.Event.TheVariants.{Retired}
use Rattle.state.specs.declared.Oep060Timing.{Oep060Timing}
use Rattle.state.specs.Events.{costs, answers, finally, total}
use Rattle.step.specs.Boards.{board_of}
use Rattle.state.specs.Timing.{state_of, timing_of, seen_of}
use Rattle.refusals.specs.declared.outcome.Ran.{Ran}
use Rattle.refusals.specs.Refused.{refused_of}
use Rattle.refusals.specs.Runs.{Runs, runs, rooms_of}
use Rattle.refusals.specs.Verdict.{Verdict, accepted}
use Rattle.batch.specs.Judge.{batch_verdict_of}

pub record BatchOutcome : Type 0 where
  pub ran : Ran
  pub lent : Runs

abbrev pub batch_outcome : Ran → Runs → BatchOutcome
batch_outcome ran lent = record { ran = ran; lent = lent }

abbrev pub events_of : List Retirement → List Event
events_of rs = map Retired rs

abbrev pub batch_accepted_of : Profile → List Retirement → Runs → Oep060Timing → BatchOutcome
batch_accepted_of p rs lent t =
    let s = state_of (seen_of t) in
    let paid = costs (board_of p) s (events_of rs) in
    let told = answers (board_of p) s (events_of rs) in
    batch_outcome
    (record {
      verdict = accepted;
      count = length rs;
      total = total paid;
      timing = timing_of (finally (board_of p) s (events_of rs));
    })
    (runs (paid ++ drop (length rs) lent.costs) (told ++ drop (length rs) lent.answers))

abbrev pub batch_outcome_by : Profile → Verdict → List Retirement → Runs → Oep060Timing → BatchOutcome
batch_outcome_by p (Ok done) rs lent t = batch_accepted_of p rs lent t
batch_outcome_by p (Err refusal) rs lent t = batch_outcome (refused_of refusal t) lent

unfoldable pub batch_of : Profile → List Retirement → Runs → Oep060Timing → BatchOutcome
batch_of p rs lent t = batch_outcome_by p (batch_verdict_of (length rs) (rooms_of lent)) rs lent t
