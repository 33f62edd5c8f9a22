-- Document 01, "Records and images": the bytes of a record, 4 of its head and at most 16 of its payload. The Rust has
-- none.
--
-- `at` is the place in the trace where the record starts.
--   length_at trace at      ==  the payload length that the record names
--   kind_at trace at        ==  the number of the kind that it names
--                               "A record is a 2-byte payload length, a 2-byte kind, then the payload, little-endian"
--   opcode_at trace at      ==  the opcode in a retirement's payload
--                               "opcode 2, flags 2, ppc 4, pc 4, raw 4 signed"
--   flags_at trace at       ==  the flags
--   ppc_at, pc_at trace at  ==  the two addresses
--   raw_at trace at         ==  the raw count
--   retirement_at trace at  ==  the retirement in the payload, by `retirement_of`, which has the flag bits
use Rattle.std.specs.Prelude.{ℕ, ◌+◌, List}
use Rattle.little_endian.specs.Numbers.{number_at}
use Rattle.little_endian.specs.Signed.{signed_of}
use Rattle.window.specs.declared.raw.RawCount.{RawCount}
use Rattle.window.specs.Raw.{raw_count}
use Rattle.state.specs.declared.Retirement.{Retirement}
use Rattle.state.specs.Flags.{retirement_of}

abbrev pub length_at : List ℕ → ℕ → ℕ
length_at trace at = number_at 2 trace at

abbrev pub kind_at : List ℕ → ℕ → ℕ
kind_at trace at = number_at 2 trace (at + 2)

abbrev pub opcode_at : List ℕ → ℕ → ℕ
opcode_at trace at = number_at 2 trace (at + 4)

abbrev pub flags_at : List ℕ → ℕ → ℕ
flags_at trace at = number_at 2 trace (at + 6)

abbrev pub ppc_at : List ℕ → ℕ → ℕ
ppc_at trace at = number_at 4 trace (at + 8)

abbrev pub pc_at : List ℕ → ℕ → ℕ
pc_at trace at = number_at 4 trace (at + 12)

abbrev pub raw_at : List ℕ → ℕ → RawCount
raw_at trace at = raw_count (signed_of (number_at 4 trace (at + 16)))

unfoldable pub retirement_at : List ℕ → ℕ → Retirement
retirement_at trace at = retirement_of (opcode_at trace at) (flags_at trace at) (ppc_at trace at)
    (pc_at trace at) (raw_at trace at)
