-- Document 01, "Records and images": whether a trace is taken, by its size, its records and the room for its costs and
-- answers. The Rust has none.
--
--   short room n                   ==  of two lent runs of these lengths one has no room for n retirements
--                                      "under 4 bytes a retirement"; document 02, R-5: "7 also when that run is short"
--   with_room size room said       ==  what a trace of this size said, or refusal 7
--                                      place "trace length"
--   judged_trace trace room        ==  what the trace says, refusals by size included
--                                      "Trace order: 1; then record by record 2 to 6; 7 after all records"
--   verdict_of said                ==  the verdict by what the trace said
--   Fits written room said         ==  the rest of a trace has room behind so many costs that are written already
--   FitsAnswers written room said  ==  the same of the answers
use Rattle.std.specs.Prelude.{ℕ, ◌+◌, ◌*◌, ◌≤◌, Bool, cond, ◌||◌, List, Err, ltb, length}
use Rattle.refusals.specs.declared.Refusal.TheVariants.{Oversized, Room}
use Rattle.refusals.specs.Verdict.{Verdict, accepted}
use Rattle.refusals.specs.Runs.{Rooms}
use Rattle.records.specs.Trace.{Trace, events, refused, read_trace}
use Rattle.state.specs.Events.{count_of}

abbrev pub short : Rooms → ℕ → Bool
short room n = ltb room.costs (4 * n) || ltb room.answers n

abbrev pub with_room : ℕ → Rooms → Trace → Trace
with_room size room (events es) = cond (short room (count_of es)) (refused (Room size)) (events es)
with_room size room (refused refusal) = refused refusal

unfoldable pub judged_trace : List ℕ → Rooms → Trace
judged_trace trace room = cond (ltb 16777216 (length trace)) (refused Oversized) (with_room
    (length trace) room (read_trace trace))

abbrev pub verdict_of : Trace → Verdict
verdict_of (events es) = accepted
verdict_of (refused refusal) = Err refusal

-- a refused trace is given no room
abbrev pub Fits : ℕ → ℕ → Trace → Type 0
Fits written room (events es) = 4 * (written + count_of es) ≤ room
Fits written room (refused refusal) = ⊥

abbrev pub FitsAnswers : ℕ → ℕ → Trace → Type 0
FitsAnswers written room (events es) = written + count_of es ≤ room
FitsAnswers written room (refused refusal) = ⊥
