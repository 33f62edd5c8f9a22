-- Document 01, "Records and images": what holds of every batch.
--
--   EveryBatch p  ==  the facts in the profile p, each for every run of records, two lent runs and state
use Rattle.std.specs.Prelude.{ℕ, ◌≤◌, ◌≡◌, not, ◌&&◌, List, ltb, length, take}
use Rattle.refusals.specs.Runs.{Runs, rooms_of}
use Rattle.little_endian.specs.Numbers.{put_at}
use Rattle.profile.specs.declared.Profile.{Profile}
use Rattle.state.specs.declared.Oep060Timing.{Oep060Timing}
use Rattle.state.specs.declared.Retirement.{Retirement}
use Rattle.trace.specs.Run.{cost_bytes, run_trace_of}
use Rattle.records.specs.TraceTable.{Accepts}
use Rattle.batch.specs.Judge.{short}
use Rattle.batch.specs.Batch.{events_of, batch_of}
use Rattle.refusals.specs.Given.{gives, is_accepted}

pub record EveryBatch (p : Profile) : Type 0 where
  -- "batch over 1,048,576 records", place 0
  pub given1 : (rs : List Retirement) (lent : Runs) (t : Oep060Timing)
      → gives 1 0 (batch_of p rs lent t).ran.verdict ≡ ltb 1048576 (length rs)
  -- "one place a record", place 0: "Batch: 1, 7"; document 02, R-5: "7 also when that run is short"
  pub given7 : (rs : List Retirement) (lent : Runs) (t : Oep060Timing)
      → gives 7 0 (batch_of p rs lent t).ran.verdict ≡ (not (ltb 1048576 (length rs)) && short (rooms_of lent)
      (length rs))
  -- else it is accepted
  pub taken : (rs : List Retirement) (lent : Runs) (t : Oep060Timing)
      → is_accepted (batch_of p rs lent t).ran.verdict ≡ (not (ltb 1048576 (length rs)) && not (short (rooms_of lent)
      (length rs)))
  -- "does the same into 32-bit places": a batch is the run of a trace that holds its records, what is returned, every
  -- cost and every answer; lent are the two runs of the trace, and `places`, the two of the batch
  pub as_trace : (trace : List ℕ) (lent places : Runs) (t : Oep060Timing) (rs : List Retirement)
      → Accepts trace (rooms_of lent) (events_of rs) → length rs ≤ length places.costs → length rs ≤ length
      places.answers
      → (batch_of p rs places t).ran ≡ (run_trace_of p trace lent t).ran
  pub as_trace_costs : (trace : List ℕ) (lent places : Runs) (t : Oep060Timing) (rs : List Retirement)
      → Accepts trace (rooms_of lent) (events_of rs) → length rs ≤ length places.costs → length rs ≤ length
      places.answers
      → (run_trace_of p trace lent t).lent.costs ≡ put_at lent.costs 0 (cost_bytes (take (length rs)
      (batch_of p rs places t).lent.costs))
  pub as_trace_answers : (trace : List ℕ) (lent places : Runs) (t : Oep060Timing) (rs : List Retirement)
      → Accepts trace (rooms_of lent) (events_of rs) → length rs ≤ length places.costs → length rs ≤ length
      places.answers
      → (run_trace_of p trace lent t).lent.answers ≡ put_at lent.answers 0 (take (length rs)
      (batch_of p rs places t).lent.answers)
