-- Document 02, R-1: "Refusals: those of the trace run, 7 for under one reason place a retirement." The rows of the
-- table of refusals for a run that says why, each as what holds where its number is given.
--
-- room is how many bytes are lent for the costs, and how many for the answers; places how many for the reasons.
--   RefusesWhy trace room places n p  ==  the trace is refused with the number n at the place p
--   AcceptsWhy trace room places es   ==  the trace is accepted, and es are its events
use Rattle.std.specs.Prelude.{ℕ, ◌≤◌, ◌<◌, List, length}
use Rattle.state.specs.declared.Event.{Event}
use Rattle.state.specs.Events.{count_of}
use Rattle.refusals.specs.Runs.{Rooms}
use Rattle.records.specs.TraceTable.{Reached, Refuses, Accepts}

pub data RefusesWhy (trace : List ℕ) (room : Rooms) (places : ℕ) : ℕ → ℕ → Type 0 where
  -- "those of the trace run"
  of_the_run : {n p : ℕ} → Refuses trace room n p → RefusesWhy trace room places n p
  -- "7 for under one reason place a retirement"
  row7reasons : {es : List Event}
      → length trace ≤ 16777216 → Reached trace (length trace) es → places < count_of es
      → RefusesWhy trace room places 7 (length trace)

pub record AcceptsWhy (trace : List ℕ) (room : Rooms) (places : ℕ) (es : List Event) : Type 0 where
  pub run : Accepts trace room es
  pub enough_reasons : count_of es ≤ places
