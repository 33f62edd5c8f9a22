-- Document 01, "Records and images": the rows of the table of refusals that are about a record, each as what holds
-- where its number is given. "Each number is given then and only then": promises/Traces shows that the run goes by
-- these rows.
--
-- `at` is the place in the trace where a record starts.
--   Headed trace at kind   ==  the head of a record is there, and names the kind
--   Faulty trace at n      ==  the record is refused with the number n, at its start: a row of the table each, named
--                              for its number
--   Whole trace at e next  ==  the record is sound: it stands for the event e, and the next starts at `next`
use Rattle.std.specs.Prelude.{ℕ, ◌+◌, ◌≤◌, ◌<◌, ◌≡◌, false, List}
use Rattle.state.specs.declared.Event.{Event}
use Rattle.records.specs.declared.kinds.Kind.{Kind}
use Rattle.records.specs.declared.kinds.Kind.TheVariants as K
use Rattle.records.specs.Kinds.{kind_number, payload_length}
use Rattle.records.specs.Faults.{next_place, high_flag}
use Rattle.records.specs.Record.{remaining, event_at}
use Rattle.records.specs.Layout.{length_at, flags_at, kind_at}

abbrev pub Headed : List ℕ → ℕ → Kind → Type 0
Headed trace at kind = (4 ≤ remaining trace at) × (kind_at trace at ≡ kind_number kind)

-- the first line of a row is the table's "Given when"; the second says that no earlier row is given, and has the number
pub data Faulty (trace : List ℕ) (at : ℕ) : ℕ → Type 0 where
  -- "1 to 3 bytes remain"
  row2 : 1 ≤ remaining trace at → remaining trace at ≤ 3
      → Faulty trace at 2
  -- "kind not 1 to 4"
  row3 : ((1 ≤ kind_at trace at) × (kind_at trace at ≤ 4) → ⊥)
      → 4 ≤ remaining trace at → Faulty trace at 3
  -- "length not the kind's"
  row4 : (kind : Kind) → (length_at trace at ≡ payload_length kind → ⊥)
      → Headed trace at kind → Faulty trace at 4
  -- "payload cut"
  row5 : (kind : Kind) → remaining trace at < 4 + payload_length kind
      → Headed trace at kind → length_at trace at ≡ payload_length kind → Faulty trace at 5
  -- "a flag above bit 4"
  row6 : 31 < flags_at trace at
      → Headed trace at K.Retirement → length_at trace at ≡ 16 → 4 + 16 ≤ remaining trace at → Faulty trace at 6

pub data Whole (trace : List ℕ) (at : ℕ) : Event → ℕ → Type 0 where
  whole : (kind : Kind) → Headed trace at kind → length_at trace at ≡ payload_length kind
      → 4 + payload_length kind ≤ remaining trace at → high_flag trace at kind ≡ false
      → Whole trace at (event_at trace at kind) (next_place at kind)
