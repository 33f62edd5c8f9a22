-- A walk of a trace's records, one after the other. The Rust has none.
--
--   Gives old item new  ==  a walk gives the record at its place, and goes on behind it; it ends, and stays there,
--                           where a record is refused, or at the trace's end
use Rattle.std.specs.Prelude.{ℕ, ◌≡◌, Option, Some, None}
use Rattle.state.specs.declared.Event.{Event}
use Rattle.records.specs.declared.events.Events.{Events}
use Rattle.records.specs.Record.{got, ended, read_at, Unrefused}

abbrev pub Gives : Events → Option (ℕ × Event) → Events → Type 0
Gives old (Some (at, e)) new =
    (read_at old.trace.now old.at ≡ got e new.at)
    × (at ≡ old.at)
    × (new.trace.now ≡ old.trace.now)
Gives old None new =
    (Unrefused old.trace.now old.at → read_at old.trace.now old.at ≡ ended)
    × (new.at ≡ old.at)
    × (new.trace.now ≡ old.trace.now)
