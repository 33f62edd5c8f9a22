-- Document 01, "Records and images": what stands at a place of a trace. The Rust has none.
--
-- `at` is the place in the trace where a record starts.
--   Read                     ==  what is read there: an event and the place after its record, a refusal, or the end
--   got e next               ==  this event and this place are read
--   ended                    ==  the trace's end is read
--   remaining trace at       ==  how many bytes remain from there on
--   event_at trace at kind   ==  the event that a record of this kind stands for, by `retirement_at` of Layout
--   kind_of_event e          ==  the kind of the record that stands for an event
--   taken_by verdict e next  ==  this event and this place, if the verdict takes the record; else the refusal
--   record_at trace at kind  ==  a record of this kind: its event and the place after it, or refusal 4, 5 or 6; by
--                                `fault_at` of Faults
--   body_at trace at kind    ==  the same for the kind as it was read; refusal 3 where it is none
--   whole_at trace at        ==  a whole retirement stands at the place: its length and its kind are right, and all its
--                                bytes are there
--   sound_at trace at        ==  a whole retirement stands there, and has no flag above bit 4: it is not refused
--   read_at trace at         ==  what stands at the place: the trace's end, or refusal 2, or the record
--   Unrefused trace at       ==  what stands at the place is not refused
--
-- The place of each of these refusals is the "record start", so each carries `at`.
use Rattle.std.specs.Prelude.{ℕ, ◌-◌, ◌≡◌, Bool, not, ◌&&◌, List, Option, Some, None, Result, Ok, Err, eqb, ltb, length}
use Rattle.bits.specs.Rows.{otherwise, ◌⇒◌⨾◌, first}
use Rattle.state.specs.declared.Event.{Event}
use Rattle.state.specs.declared.Event.TheVariants.{Retired, Broken, ClearedAll, ClearedUser}
use Rattle.records.specs.Faults.{next_place, high_flag, fault_at}
use Rattle.records.specs.Layout.{retirement_at, length_at, kind_at}
use Rattle.refusals.specs.declared.Refusal.{Refusal}
use Rattle.refusals.specs.declared.Refusal.TheVariants.{Remainder, WrongKind}
use Rattle.refusals.specs.Verdict.{Verdict}
use Rattle.records.specs.declared.kinds.Kind.{Kind}
use Rattle.records.specs.declared.kinds.Kind.TheVariants as K
use Rattle.records.specs.declared.kinds.UnknownKind.{UnknownKind}
use Rattle.records.specs.Kinds.{kind_number, payload_length, kind_of}

abbrev pub Read : Type 0
Read = Result (Option (Event × ℕ)) Refusal

abbrev pub got : Event → ℕ → Read
got e next = Ok (Some (e, next))

abbrev pub ended : Read
ended = Ok None

abbrev pub remaining : List ℕ → ℕ → ℕ
remaining trace at = length trace - at

abbrev pub event_at : List ℕ → ℕ → Kind → Event
event_at trace at K.Retirement = Retired (retirement_at trace at)
event_at trace at K.Break = Broken
event_at trace at K.ClearAll = ClearedAll
event_at trace at K.ClearUser = ClearedUser

abbrev pub kind_of_event : Event → Kind
kind_of_event (Retired r) = K.Retirement
kind_of_event Broken = K.Break
kind_of_event ClearedAll = K.ClearAll
kind_of_event ClearedUser = K.ClearUser

abbrev pub taken_by : Verdict → Event → ℕ → Read
taken_by (Ok done) e next = got e next
taken_by (Err refusal) e next = Err refusal

unfoldable pub record_at : List ℕ → ℕ → Kind → Read
record_at trace at kind = taken_by (fault_at trace at kind) (event_at trace at kind) (next_place at kind)

abbrev pub body_at : List ℕ → ℕ → Result Kind UnknownKind → Read
body_at trace at (Err none) = Err (WrongKind at)
body_at trace at (Ok kind) = record_at trace at kind

abbrev pub whole_at : List ℕ → ℕ → Bool
whole_at trace at =
    not (ltb (length trace) (next_place at K.Retirement))
    && eqb (length_at trace at) (payload_length K.Retirement)
    && eqb (kind_at trace at) (kind_number K.Retirement)

abbrev pub sound_at : List ℕ → ℕ → Bool
sound_at trace at = whole_at trace at && not (high_flag trace at K.Retirement)

unfoldable pub read_at : List ℕ → ℕ → Read
read_at trace at =
    first
    (eqb (remaining trace at) 0 ⇒ ended ⨾
    ltb (remaining trace at) 4 ⇒ Err (Remainder at) ⨾
    otherwise (body_at trace at (kind_of (kind_at trace at))))

abbrev pub Unrefused : List ℕ → ℕ → Type 0
Unrefused trace at = (refusal : Refusal) → read_at trace at ≡ Err refusal → ⊥
