-- The lines of the page of the rules. Opcodes and class words are four upper-case hexadecimal digits, the rest decimal;
-- every line ends in a newline.
--
--   row_count       ==  how many rows there are: 1,024; row k is the opcodes 64 * k to 64 * k + 63
--   begins row      ==  a run of rows begins here: the row before has another rule, or there is none
--   ends row        ==  a run of rows ends here: the row after has another rule, or there is none
--   run_begins row, run_ends row
--                   ==  the line of a run, `FIRST-LAST RULE NAME`, up to its dash and from there on: its first opcode;
--                       its last, the number of the rule and its name
--   row_text row    ==  what a row adds to part one: where a run begins the line's beginning, where it ends its end
--   heading_line n  ==  `RULE NAME: sentence`, behind an empty line
--   word_text w     ==  a class word: itself, its class, its clocks and its flags by name
--   mode_line n m   ==  what rule n gives for the operand mode m
--   closing_line    ==  how many rows and rules there are, `1024 rows, 29 rules`, behind an empty line
use Rattle.std.specs.Prelude.{ℕ, ◌+◌, ◌-◌, ◌*◌, Bool, cond, not, ◌||◌, List, [], ◌++◌, eqb}
use Rattle.class_word.specs.Word.{class_of, clocks_of}
use Rattle.classifier.specs.Rules.{rule_count, name_of, sentence_of, finish_of, rule_of}
use Rattle.text.specs.Written.{text_of, newline}
use Rattle.text.specs.Decimal.{decimal_of}
use Rattle.text.specs.Hex.{hex_of}
use Rattle.rule_text.specs.Names.{mode_name, six_at, flags_text}

abbrev pub row_count : ℕ
row_count = 1024

abbrev pub begins : ℕ → Bool
begins row = eqb row 0 || not (eqb (rule_of (row - 1)) (rule_of row))

abbrev pub ends : ℕ → Bool
ends row = eqb row (row_count - 1) || not (eqb (rule_of (row + 1)) (rule_of row))

abbrev pub run_begins : ℕ → List ℕ
run_begins row = hex_of (64 * row) ++ text_of "-"

abbrev pub run_ends : ℕ → List ℕ
run_ends row = hex_of (64 * row + 63) ++ text_of " " ++ decimal_of (rule_of row) ++ text_of " "
    ++ text_of (name_of (rule_of row)) ++ newline

abbrev pub row_text : ℕ → List ℕ
row_text row = cond (begins row) (run_begins row) [] ++ cond (ends row) (run_ends row) []

unfoldable pub heading_line : ℕ → List ℕ
heading_line n =
    newline ++ decimal_of n ++ text_of " " ++ text_of (name_of n) ++ text_of ": " ++ text_of (sentence_of n)
    ++ newline

unfoldable pub word_text : ℕ → List ℕ
word_text w = hex_of w ++ text_of " class " ++ decimal_of (class_of w) ++ text_of " clocks " ++ decimal_of (clocks_of w)
    ++ flags_text w

abbrev pub mode_line : ℕ → ℕ → List ℕ
mode_line n m = text_of "  " ++ text_of (mode_name m) ++ word_text (finish_of n (six_at m)) ++ newline

unfoldable pub closing_line : List ℕ
closing_line =
    newline ++ decimal_of row_count ++ text_of " rows, " ++ decimal_of rule_count ++ text_of " rules" ++ newline
