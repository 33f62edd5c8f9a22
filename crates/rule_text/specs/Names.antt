-- The names on the page of the rules.
--
--   mode_count       ==  how many operand modes there are to a rule: 13
--   mode_names m     ==  the names of the modes, in twelve columns: the modes 0 to 6, then mode 7 with the registers 0
--                        to 4, and with 5 to 7, which no operand has
--   mode_name m      ==  the name of mode m
--   six_at m         ==  the low six bits that stand for mode m: register 0 in the modes 0 to 6, then mode 7 with the
--                        registers 0 to 4, and 5 for 5 to 7
--   flag_text w f n  ==  the name n, where the word w has the flag f
--   none_text w      ==  "none", where the word has no flag: it is below BRANCH, the lowest
--   flags_text w     ==  the names of the word's flags in the order of document 01, or "none"
use Rattle.std.specs.Prelude.{ℕ, ◌+◌, ◌*◌, cond, List, [], ◌++◌, eqb, ltb}
use Prim.Native.String.{String}
use Rattle.bits.specs.Rows.{Rows, otherwise, ◌⇒◌⨾◌, first}
use Rattle.class_word.specs.Word.{
  has,
  BRANCH,
  DBCC,
  VARIABLE,
  UNCLASSIFIED,
  DEFINES_CCR,
  USES_CCR_LATE,
  EA_INDEXED,
  READS_MEM,
  WRITES_MEM,
}
use Rattle.text.specs.Written.{text_of}

abbrev pub mode_count : ℕ
mode_count = 13

unfoldable pub mode_names : ℕ → Rows String
mode_names m =
    eqb m 0 ⇒ "Dn          " ⨾
    eqb m 1 ⇒ "An          " ⨾
    eqb m 2 ⇒ "(An)        " ⨾
    eqb m 3 ⇒ "(An)+       " ⨾
    eqb m 4 ⇒ "-(An)       " ⨾
    eqb m 5 ⇒ "(d16,An)    " ⨾
    eqb m 6 ⇒ "(d8,An,Xn)  " ⨾
    eqb m 7 ⇒ "(xxx).W     " ⨾
    eqb m 8 ⇒ "(xxx).L     " ⨾
    eqb m 9 ⇒ "(d16,PC)    " ⨾
    eqb m 10 ⇒ "(d8,PC,Xn)  " ⨾
    eqb m 11 ⇒ "#immediate  " ⨾
    otherwise "mode7/5-7   "

abbrev pub mode_name : ℕ → String
mode_name m = first (mode_names m)

abbrev pub six_at : ℕ → ℕ
six_at m = cond (ltb m 7) (8 * m) (49 + m)

unfoldable pub flag_text : ℕ → ℕ → List ℕ → List ℕ
flag_text w f n = cond (has w f) n []

unfoldable pub none_text : ℕ → List ℕ
none_text w = cond (ltb w BRANCH) (text_of " none") []

unfoldable pub flags_text : ℕ → List ℕ
flags_text w = none_text w ++ flag_text w BRANCH (text_of " BRANCH")
    ++ flag_text w DBCC (text_of " DBCC") ++ flag_text w VARIABLE (text_of " VARIABLE")
    ++ flag_text w DEFINES_CCR (text_of " DEFINES_CCR") ++ flag_text w USES_CCR_LATE (text_of " USES_CCR_LATE")
    ++ flag_text w EA_INDEXED (text_of " EA_INDEXED") ++ flag_text w UNCLASSIFIED (text_of " UNCLASSIFIED")
    ++ flag_text w READS_MEM (text_of " READS_MEM") ++ flag_text w WRITES_MEM (text_of " WRITES_MEM")
