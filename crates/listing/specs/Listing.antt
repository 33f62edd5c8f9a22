-- Document 01, "Worked instructions": the cost lister's whole output. The Rust has none.
--
-- In each, t is the state that the run starts from, and p the profile that is chosen for it.
--   short_trace_of trace              ==  what the trace says: its events, or its refusal
--                                         "reads a trace of at most 65,536 bytes"; "`refused 1 at 0` for longer input"
--   table_of p es t                   ==  the output for the events of a trace that is accepted: the header, a line for
--                                         each retirement, the total
--   text_by p said t                  ==  the output by what the trace said
--                                         "A refusal is its whole output"
--   timing_by p said t                ==  the next state by what the trace said
--                                         "A refused run .. returns .. the state it was given"
--   listing_of p trace t              ==  the whole output
--   ListingOutcome                    ==  what is returned, together with every lent byte afterwards
--   listing_outcome r lent            ==  the outcome of these two
--   listing_outcome_by p said lent t  ==  the outcome by what the trace said: the verdict, how long the output is, and
--                                         the next state; the output stands at the start of the lent bytes, and those
--                                         beyond it stay
--   list_trace_of p trace lent t      ==  the outcome of listing the trace into the lent bytes
use Rattle.std.specs.Prelude.{ℕ, cond, List, ◌++◌, ltb, length}
use Rattle.little_endian.specs.Numbers.{put_at}
use Rattle.profile.specs.declared.Profile.{Profile}
use Rattle.state.specs.declared.Event.{Event}
use Rattle.state.specs.declared.Oep060Timing.{Oep060Timing}
use Rattle.state.specs.Events.{total, count_of}
use Rattle.state.specs.Timing.{seen_of}
use Rattle.refusals.specs.declared.Refusal.TheVariants.{Oversized}
use Rattle.records.specs.Trace.{Trace, events, refused, read_trace}
use Rattle.trace.specs.Run.{costs_of, next_of}
use Rattle.listing.specs.declared.Listed.{Listed}
use Rattle.listing.specs.Lines.{refusal_line, header_line, total_line, opcodes_of, lines_from}
use Rattle.records.specs.Judged.{verdict_of}

unfoldable pub short_trace_of : List ℕ → Trace
short_trace_of trace = cond (ltb 65536 (length trace)) (refused Oversized) (read_trace trace)

abbrev pub table_of : Profile → List Event → Oep060Timing → List ℕ
table_of p es t = header_line ++ lines_from 0 (opcodes_of es) (costs_of p t es)
    ++ total_line (count_of es) (total (costs_of p t es))

abbrev pub text_by : Profile → Trace → Oep060Timing → List ℕ
text_by p (events es) t = table_of p es t
text_by p (refused refusal) t = refusal_line refusal

abbrev pub timing_by : Profile → Trace → Oep060Timing → Oep060Timing
timing_by p (events es) t = next_of p t es
timing_by p (refused refusal) t = seen_of t

abbrev pub listing_of : Profile → List ℕ → Oep060Timing → List ℕ
listing_of p trace t = text_by p (short_trace_of trace) t

pub record ListingOutcome : Type 0 where
  pub answer : Listed
  pub lent : List ℕ

abbrev pub listing_outcome : Listed → List ℕ → ListingOutcome
listing_outcome r lent = record { answer = r; lent = lent }

abbrev pub listing_outcome_by : Profile → Trace → List ℕ → Oep060Timing → ListingOutcome
listing_outcome_by p said lent t =
    listing_outcome
    (record { verdict = verdict_of said; len = length (text_by p said t); timing = timing_by p said t })
    (put_at lent 0 (text_by p said t))

abbrev pub list_trace_of : Profile → List ℕ → List ℕ → Oep060Timing → ListingOutcome
list_trace_of p trace lent t = listing_outcome_by p (short_trace_of trace) lent t
