-- Where the two profiles differ, and the line that is printed of it. Document 02, R-4.
--
--   differ_of a b           ==  two instructions differ: in the class word, in the uses or in the defs
--   three_of i              ==  the class word, the uses and the defs of an instruction, a blank before each
--   difference_line op a b  ==  the line of an opcode that is a in the crate's profile and b in the mended one: `OPCODE
--                               WORD USE DEF WORD USE DEF`
use Rattle.std.specs.Prelude.{ℕ, Bool, not, ◌||◌, List, ◌++◌, eqb}
use Rattle.text.specs.Written.{text_of, newline}
use Rattle.text.specs.Hex.{hex_of}
use Rattle.window.specs.declared.dispatch.Instruction.{Instruction}

abbrev pub differ_of : Instruction → Instruction → Bool
differ_of a b = not (eqb a.word.0 b.word.0) || not (eqb a.uses b.uses) || not (eqb a.defs b.defs)

abbrev pub three_of : Instruction → List ℕ
three_of i = text_of " " ++ hex_of i.word.0 ++ text_of " " ++ hex_of i.uses ++ text_of " " ++ hex_of i.defs

abbrev pub difference_line : ℕ → Instruction → Instruction → List ℕ
difference_line op a b = hex_of op ++ three_of a ++ three_of b ++ newline
