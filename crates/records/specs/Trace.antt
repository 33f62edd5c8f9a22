-- Document 01, "Records and images": what a whole trace says. The Rust has none.
--
--   Trace                  ==  the events of a trace in order, or its refusal
--   ahead e said           ==  the event e in front of what the rest said
--   go_on rest read        ==  what was read at a place, and then the rest
--                              "record by record 2 to 6": the first refusal is the trace's
--   read_in most trace at  ==  what the trace says from a place on, in at most so many records
--   read_from trace at     ==  what the trace says from a place on: there are no more records than bytes
--   read_trace trace       ==  what the trace says
--                              "The empty trace is accepted"
--   checked_of said        ==  what a check of all records answers: the number of retirements, or the refusal
use Rattle.std.specs.Prelude.{ℕ, zero, suc, List, [], ◌∷◌, Some, None, Result, Ok, Err}
use Rattle.state.specs.declared.Event.{Event}
use Rattle.refusals.specs.declared.Refusal.{Refusal}
use Rattle.records.specs.Record.{Read, remaining, read_at}
use Rattle.state.specs.Events.{count_of}

pub data Trace : Type 0 where
  events : List Event → Trace
  refused : Refusal → Trace

abbrev pub ahead : Event → Trace → Trace
ahead e (events es) = events (e ∷ es)
ahead e (refused refusal) = refused refusal

abbrev pub go_on : (ℕ → Trace) → Read → Trace
go_on rest (Ok None) = events []
go_on rest (Ok (Some (e, next))) = ahead e (rest next)
go_on rest (Err refusal) = refused refusal

unfoldable pub read_in : ℕ → List ℕ → ℕ → Trace
read_in zero trace at = events []
read_in (suc most) trace at = go_on (λ next. read_in most trace next) (read_at trace at)

unfoldable pub read_from : List ℕ → ℕ → Trace
read_from trace at = read_in (remaining trace at) trace at

abbrev pub read_trace : List ℕ → Trace
read_trace trace = read_from trace 0

abbrev pub checked_of : Trace → Result ℕ Refusal
checked_of (events es) = Ok (count_of es)
checked_of (refused refusal) = Err refusal
