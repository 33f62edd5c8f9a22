-- Document 02, R-1: the whole output of `why`: "one reason per retirement". Limit and refusals are the cost lister's:
-- the two read the same traces. The Rust has none.
--
-- In each, p is the profile, t the state that the run starts from, and `full` whether the columns more and the counts
-- are asked for.
--   met_in p t es              ==  the retirements among the events es, each as it is met
--   why_table_of full p es t   ==  the output for the events of a trace that is accepted: the header, a line for each
--                                  retirement, the total, which is the cost lister's, and the counts
--   why_text_by full p said t  ==  the output by what the trace said; a refusal is the whole output
--   why_of full p trace t      ==  the whole output; `short_trace_of` of the listing is what the trace says, with the
--                                  limit
use Rattle.std.specs.Prelude.{ℕ, Bool, List, ◌++◌}
use Rattle.cost.specs.Retiring.{Retiring}
use Rattle.profile.specs.declared.Profile.{Profile}
use Rattle.state.specs.declared.Event.{Event}
use Rattle.state.specs.declared.Oep060Timing.{Oep060Timing}
use Rattle.state.specs.Events.{retirements, total, count_of}
use Rattle.state.specs.Timing.{state_of, seen_of}
use Rattle.step.specs.Boards.{board_of}
use Rattle.records.specs.Trace.{Trace, events, refused}
use Rattle.trace.specs.Run.{costs_of}
use Rattle.listing.specs.Lines.{refusal_line, total_line}
use Rattle.listing.specs.Listing.{short_trace_of}
use Rattle.explaining.specs.WhyLines.{why_header, why_lines, count_lines}

abbrev pub met_in : Profile → Oep060Timing → List Event → List Retiring
met_in p t es = retirements (board_of p) (state_of (seen_of t)) es

abbrev pub why_table_of : Bool → Profile → List Event → Oep060Timing → List ℕ
why_table_of full p es t = why_header full ++ why_lines full 0 (met_in p t es)
    ++ total_line (count_of es) (total (costs_of p t es)) ++ count_lines full (met_in p t es)

abbrev pub why_text_by : Bool → Profile → Trace → Oep060Timing → List ℕ
why_text_by full p (events es) t = why_table_of full p es t
why_text_by full p (refused refusal) t = refusal_line refusal

abbrev pub why_of : Bool → Profile → List ℕ → Oep060Timing → List ℕ
why_of full p trace t = why_text_by full p (short_trace_of trace) t
