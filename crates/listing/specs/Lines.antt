-- Document 01, "Worked instructions": the lines that the cost lister prints. The Rust has none. Every line ends in a
-- newline.
--
--   refusal_line refusal        ==  `refused N at P`: the number and the place of a refusal
--                                   "as `refused 1 at 0` for longer input"
--   header_line                 ==  `index opcode clocks`
--   retirement_line index op n  ==  the index, the opcode and the clocks n of a retirement
--                                   "Opcodes are four upper-case hex digits, the rest decimal"
--   total_line count sum        ==  `total`, the number of retirements, the sum of their costs
--   opcodes_of es               ==  the opcodes of the retirements among the events, in order
--   lines_from index ops ns     ==  a line for each retirement, with the opcodes ops and the costs ns, the first of
--                                   them with this index
--                                   "the index counts retirements from 0"
use Rattle.std.specs.Prelude.{ℕ, ◌+◌, List, [], ◌∷◌, ◌++◌}
use Rattle.text.specs.Written.{text_of, newline}
use Rattle.text.specs.Decimal.{decimal_of}
use Rattle.text.specs.Hex.{hex_of}
use Rattle.state.specs.declared.Event.{Event}
use Rattle.state.specs.declared.Event.TheVariants.{Retired, Broken, ClearedAll, ClearedUser}
use Rattle.refusals.specs.declared.Refusal.{Refusal}
use Rattle.refusals.specs.Refusals.{number_of, place_of}

abbrev pub refusal_line : Refusal → List ℕ
refusal_line refusal =
    text_of "refused " ++ decimal_of (number_of refusal) ++ text_of " at " ++ decimal_of (place_of refusal)
    ++ newline

abbrev pub header_line : List ℕ
header_line = text_of "index opcode clocks" ++ newline

abbrev pub retirement_line : ℕ → ℕ → ℕ → List ℕ
retirement_line index op n = decimal_of index ++ text_of " " ++ hex_of op ++ text_of " " ++ decimal_of n ++ newline

abbrev pub total_line : ℕ → ℕ → List ℕ
total_line count sum = text_of "total " ++ decimal_of count ++ text_of " " ++ decimal_of sum ++ newline

abbrev pub opcodes_of : List Event → List ℕ
opcodes_of [] = []
opcodes_of (Retired r ∷ es) = r.op ∷ opcodes_of es
opcodes_of (Broken ∷ es) = opcodes_of es
opcodes_of (ClearedAll ∷ es) = opcodes_of es
opcodes_of (ClearedUser ∷ es) = opcodes_of es

unfoldable pub lines_from : ℕ → List ℕ → List ℕ → List ℕ
lines_from index [] ns = []
lines_from index (op ∷ ops) [] = []
lines_from index (op ∷ ops) (n ∷ ns) = retirement_line index op n ++ lines_from (index + 1) ops ns
