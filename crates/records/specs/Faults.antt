-- Document 01, "Records and images": what is wrong with a record whose kind is known. The Rust has none.
--
-- `at` is the place in the trace where the record starts.
--   next_place at kind       ==  the place after a record of this kind
--   high_flag trace at kind  ==  the record has a flag without a meaning
--                                "a flag above bit 4"; only retirements have flags
--   fault_at trace at kind   ==  refusal 4, 5 or 6, tried in this order; else the record is taken
--
-- The place of each of these refusals is the "record start", so each carries `at`.
use Rattle.std.specs.Prelude.{ℕ, ◌+◌, Bool, false, not, List, Err, eqb, ltb, length}
use Rattle.bits.specs.Rows.{otherwise, ◌⇒◌⨾◌, first}
use Rattle.refusals.specs.declared.Refusal.TheVariants.{WrongLength, Cut, Flag}
use Rattle.refusals.specs.Verdict.{Verdict, accepted}
use Rattle.records.specs.declared.kinds.Kind.{Kind}
use Rattle.records.specs.declared.kinds.Kind.TheVariants as K
use Rattle.records.specs.Kinds.{payload_length}
use Rattle.records.specs.Layout.{length_at, flags_at}

abbrev pub next_place : ℕ → Kind → ℕ
next_place at kind = at + 4 + payload_length kind

-- the flags 0 to 4 together are 31
abbrev pub high_flag : List ℕ → ℕ → Kind → Bool
high_flag trace at K.Retirement = ltb 31 (flags_at trace at)
high_flag trace at K.Break = false
high_flag trace at K.ClearAll = false
high_flag trace at K.ClearUser = false

unfoldable pub fault_at : List ℕ → ℕ → Kind → Verdict
fault_at trace at kind =
    first
    (not (eqb (length_at trace at) (payload_length kind)) ⇒ Err (WrongLength at) ⨾
    ltb (length trace) (next_place at kind) ⇒ Err (Cut at) ⨾
    high_flag trace at kind ⇒ Err (Flag at) ⨾
    otherwise accepted)
