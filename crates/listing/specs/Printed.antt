-- The text of a trace that was run: the lines of a trace whose costs stand in bytes, and the whole by the verdict of
-- its run.
--
--   lines_read index bytes es        ==  a line for each retirement among the events, the first of them with this
--                                        index; each cost is the number that stands in the bytes at 4 times the index
--   lines_of index bytes said        ==  the same by what a trace said; a refused trace has none
--   Ready v trace bytes room         ==  so many lent bytes have room for the text by the verdict v; where the trace is
--                                        accepted, a cost stands in the bytes for each of its retirements
--   printed v trace bytes count sum  ==  the text by the verdict v: the refusal, or the whole table
use Rattle.std.specs.Prelude.{ℕ, ◌+◌, ◌*◌, ◌≤◌, List, [], ◌∷◌, ◌++◌, Ok, Err, length}
use Rattle.little_endian.specs.Numbers.{number_at}
use Rattle.state.specs.declared.Event.{Event}
use Rattle.state.specs.declared.Event.TheVariants.{Retired, Broken, ClearedAll, ClearedUser}
use Rattle.refusals.specs.Verdict.{Verdict}
use Rattle.records.specs.Trace.{Trace, events, refused, read_trace}
use Rattle.records.specs.Judged.{Fits}
use Rattle.listing.specs.Lines.{refusal_line, header_line, retirement_line, total_line}

abbrev pub lines_read : ℕ → List ℕ → List Event → List ℕ
lines_read index bytes [] = []
lines_read index bytes (Retired r ∷ es) = retirement_line index r.op (number_at 4 bytes (4 * index))
    ++ lines_read (index + 1) bytes es
lines_read index bytes (Broken ∷ es) = lines_read index bytes es
lines_read index bytes (ClearedAll ∷ es) = lines_read index bytes es
lines_read index bytes (ClearedUser ∷ es) = lines_read index bytes es

abbrev pub lines_of : ℕ → List ℕ → Trace → List ℕ
lines_of index bytes (events es) = lines_read index bytes es
lines_of index bytes (refused refusal) = []

abbrev pub Ready : Verdict → List ℕ → List ℕ → ℕ → Type 0
Ready (Ok done) trace bytes room = Fits 0 (length bytes) (read_trace trace)
    × (length (lines_of 0 bytes (read_trace trace)) + 68 ≤ room)
Ready (Err refusal) trace bytes room = 53 ≤ room

abbrev pub printed : Verdict → List ℕ → List ℕ → ℕ → ℕ → List ℕ
printed (Ok done) trace bytes count sum = header_line ++ lines_of 0 bytes (read_trace trace) ++ total_line count sum
printed (Err refusal) trace bytes count sum = refusal_line refusal
