-- The whole output of `show_trace`. The tool is the project's own, beside document 01's cost lister, and its rules are
-- these: it reads a trace of at most 65,536 bytes, as the lister does, and prints a header, a line for each record, and
-- an end line; a refusal is the whole output. The Rust has none.
--
--   shown_by size said  ==  the output by what a trace of this size said
--   shown_of trace      ==  the whole output; `short_trace_of` of the listing is what the trace says, with the limit
use Rattle.std.specs.Prelude.{ℕ, List, ◌++◌, length}
use Rattle.records.specs.Trace.{Trace, events, refused}
use Rattle.listing.specs.Lines.{refusal_line}
use Rattle.listing.specs.Listing.{short_trace_of}
use Rattle.showing.specs.Lines.{header_line, lines_from, end_line}

abbrev pub shown_by : ℕ → Trace → List ℕ
shown_by size (events es) = header_line ++ lines_from 0 es ++ end_line size
shown_by size (refused refusal) = refusal_line refusal

abbrev pub shown_of : List ℕ → List ℕ
shown_of trace = shown_by (length trace) (short_trace_of trace)
