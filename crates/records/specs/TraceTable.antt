-- Document 01, "Records and images": the rows of the table of refusals that are about traces, each as what holds where
-- its number is given. Rows 2 to 6 are those of a record (RecordTable). "Each number is given then and only then":
-- promises/Traces shows that the run goes by these rows.
--
-- room is how many bytes are lent for the costs, and how many for the answers.
--   Reached trace at es     ==  all records before the place `at` are sound, and es are their events
--   Refuses trace room n p  ==  the trace is refused with the number n at the place p: a row of the table each
--                               "Trace order: 1; then record by record 2 to 6; 7 after all records"
--   Accepts trace room es   ==  the trace is accepted, and es are its events
use Rattle.std.specs.Prelude.{ℕ, ◌*◌, ◌≤◌, ◌<◌, List, [], ◌∷◌, ◌++◌, length}
use Rattle.state.specs.declared.Event.{Event}
use Rattle.refusals.specs.Runs.{Rooms}
use Rattle.records.specs.RecordTable.{Faulty, Whole}
use Rattle.state.specs.Events.{count_of}

pub data Reached (trace : List ℕ) : ℕ → List Event → Type 0 where
  start : Reached trace 0 []
  past : {at next : ℕ} {es : List Event} {e : Event} → Reached trace at es → Whole trace at e next
      → Reached trace next (es ++ e ∷ [])

pub data Refuses (trace : List ℕ) (room : Rooms) : ℕ → ℕ → Type 0 where
  -- "trace over 16,777,216 bytes"
  row1 : 16777216 < length trace → Refuses trace room 1 0
  -- "record by record 2 to 6"
  rows2to6 : {at n : ℕ} {es : List Event}
      → length trace ≤ 16777216 → Reached trace at es → Faulty trace at n → Refuses trace room n at
  -- "under 4 bytes a retirement"
  row7 : {es : List Event}
      → length trace ≤ 16777216 → Reached trace (length trace) es → room.costs < 4 * count_of es
      → Refuses trace room 7 (length trace)
  -- document 02, R-5: "7 also when that run is short"
  row7answers : {es : List Event}
      → length trace ≤ 16777216 → Reached trace (length trace) es → room.answers < count_of es
      → Refuses trace room 7 (length trace)

pub record Accepts (trace : List ℕ) (room : Rooms) (es : List Event) : Type 0 where
  pub size : length trace ≤ 16777216
  pub records : Reached trace (length trace) es
  pub enough : 4 * count_of es ≤ room.costs
  pub enough_answers : count_of es ≤ room.answers
