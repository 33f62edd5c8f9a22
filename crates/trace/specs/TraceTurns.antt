-- One record of a run, on the numbers that are lent for the state. Document 01, "One retirement" and "Records and
-- images". The Rust: cycles_060, break_060_pipeline, clear_all, clear_user.
--
--   Turned               ==  the turn of one record, together with the lent numbers afterwards
--   turned r l           ==  these two
--   turn_for p l next e  ==  the turn of the event e in the profile p, with the place after its record
--   turn_of p at l read  ==  the turn of what was read at the place `at`; where it is no event, nothing is done
use Rattle.std.specs.Prelude.{ℕ, Err, None, Ok, Some}
use Rattle.profile.specs.declared.Profile.{Profile}
use Rattle.state.specs.declared.Event.{Event}
use Rattle.in_place.specs.Lent.{Lent}
use Rattle.in_place.specs.Retire.{event_at_of, paid_for}
use Rattle.records.specs.Record.{Read}
use Rattle.trace.specs.declared.running.Turn.{Turn}

pub record Turned : Type 0 where
  pub turn : Turn
  pub lent : Lent

abbrev pub turned : Turn → Lent → Turned
turned turn l = record { turn = turn; lent = l }

abbrev pub turn_for : Profile → Lent → ℕ → Event → Turned
turn_for p l next e = turned (record { next = next; paid = paid_for p l e }) (event_at_of p l e)

abbrev pub turn_of : Profile → ℕ → Lent → Read → Turned
turn_of p at l (Ok (Some (e, next))) = turn_for p l next e
turn_of p at l (Ok None) = turned (record { next = at; paid = None }) l
turn_of p at l (Err refusal) = turned (record { next = at; paid = None }) l
