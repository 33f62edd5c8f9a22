-- The lines that `show_trace` prints. The tool is the project's own, and its rules are these: a line for each record,
-- with its place in the trace. Places and raw counts are decimal, raw counts signed; opcodes are four and addresses
-- eight upper-case hexadecimal digits. Every line ends in a newline. The Rust has none.
--
--   mark on letter     ==  a flag as a character: its letter, or `-` where it is off
--   flags_text k       ==  the flags as five characters: `f` flowed, `c` cached, `e` ESS, `b` EBC, `s` supervisor
--   controls_text k    ==  the flags, the address where the instruction stood, the address of the next, the raw count
--   retirement_text r  ==  `retirement`, the opcode, and the controls
--   record_text e      ==  what a record says: a retirement, `break`, `clear-all` or `clear-user`
--   record_line at e   ==  the line of the record at the place `at`: its place, and what it says
--   header_line        ==  the names of the columns
--   end_line size      ==  `end`, and the length of the trace in bytes
--   lines_from at es   ==  a line for each of the events, whose records follow each other, the first at the place `at`;
--                          `next_place` of the records is the place after a record of a kind
use Rattle.std.specs.Prelude.{ℕ, Bool, cond, List, [], ◌∷◌, ◌++◌}
use Prim.Native.Char.{Char, code}
use Rattle.text.specs.Written.{text_of, newline}
use Rattle.text.specs.Decimal.{decimal_of}
use Rattle.text.specs.Hex.{hex_of, hex_long_of}
use Rattle.text.specs.Signed.{signed_decimal_of}
use Rattle.window.specs.declared.dispatch.Controls.{Controls}
use Rattle.state.specs.declared.Retirement.{Retirement}
use Rattle.state.specs.declared.Event.{Event}
use Rattle.state.specs.declared.Event.TheVariants.{Retired, Broken, ClearedAll, ClearedUser}
use Rattle.records.specs.Faults.{next_place}
use Rattle.records.specs.Record.{kind_of_event}

abbrev pub mark : Bool → Char → ℕ
mark on letter = cond on (code letter) (code "-")

unfoldable pub flags_text : Controls → List ℕ
flags_text k = mark k.flowed "f" ∷ mark k.cached "c" ∷ mark k.ess "e" ∷ mark k.ebc "b"
    ∷ mark k.supervisor "s" ∷ []

unfoldable pub controls_text : Controls → List ℕ
controls_text k = flags_text k ++ text_of " " ++ hex_long_of k.ppc ++ text_of " " ++ hex_long_of k.pc ++ text_of " "
    ++ signed_decimal_of k.raw.0

abbrev pub retirement_text : Retirement → List ℕ
retirement_text r = text_of "retirement " ++ hex_of r.op ++ text_of " " ++ controls_text r.controls

abbrev pub record_text : Event → List ℕ
record_text (Retired r) = retirement_text r
record_text Broken = text_of "break"
record_text ClearedAll = text_of "clear-all"
record_text ClearedUser = text_of "clear-user"

abbrev pub record_line : ℕ → Event → List ℕ
record_line at e = decimal_of at ++ text_of " " ++ record_text e ++ newline

abbrev pub header_line : List ℕ
header_line = text_of "place record opcode flags ppc pc raw" ++ newline

abbrev pub end_line : ℕ → List ℕ
end_line size = text_of "end " ++ decimal_of size ++ newline

unfoldable pub lines_from : ℕ → List Event → List ℕ
lines_from at [] = []
lines_from at (e ∷ es) = record_line at e ++ lines_from (next_place at (kind_of_event e)) es
