-- What the functions inside answer: the lines of what a trace says from a place on.
--
--   lines_of at said  ==  a line for each record from the place `at` on; a refused trace has none
use Rattle.std.specs.Prelude.{ℕ, List, []}
use Rattle.records.specs.Trace.{Trace, events, refused}
use Rattle.showing.specs.Lines.{lines_from}

abbrev pub lines_of : ℕ → Trace → List ℕ
lines_of at (events es) = lines_from at es
lines_of at (refused refusal) = []
