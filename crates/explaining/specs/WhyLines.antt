-- Document 02, R-1: the lines that `why` prints. "A program prints index, opcode, clocks and reason"; R-5: "R-1's tool
-- prints it", what the cache predicted. The three columns more and the counts are the project's own. Every line ends in
-- a newline. The Rust has none.
--
-- In each, `full` says whether the columns more and the counts are asked for.
--   why_header full           ==  the names of the columns
--   numbers_text index op n   ==  the index, the opcode and the clocks n, as the cost lister prints them
--   words_text x a            ==  the word of the reason x, and that of what the cache predicted, a
--   head_text w               ==  the opcode and the address of the head of the window w
--   more_text full x          ==  the three columns more of a retirement that comes to x: the head as the window had it
--                                 before this retirement, of branches and flow too, and the registers in the way
--   why_line full index op x  ==  the line of a retirement of this index and opcode that comes to x
--   why_lines full index rs   ==  a line for each of the retirements rs, the first of them with this index
--   counted n rs              ==  how many of the retirements rs have the reason of number n
--   count_line x n            ==  the word of the reason x, and how many have it, n
--   counts_for xs rs          ==  such a line for each of the reasons xs, also where none has it
--   count_lines full rs       ==  such a line for each reason in the order of the table, where they are asked for
use Rattle.std.specs.Prelude.{ℕ, ◌+◌, Bool, cond, List, [], ◌∷◌, ◌++◌, eqb}
use Rattle.bits.specs.Words.{num}
use Rattle.text.specs.Written.{text_of, newline}
use Rattle.text.specs.Decimal.{decimal_of}
use Rattle.text.specs.Hex.{hex_of}
use Rattle.window.specs.declared.Window.{Window}
use Rattle.cost.specs.declared.branch.Answer.{Answer}
use Rattle.cost.specs.Retiring.{Retiring}
use Rattle.reasons.specs.declared.reason.Reason.{Reason}
use Rattle.reasons.specs.declared.explain.Explained.{Explained}
use Rattle.reasons.specs.Reasons.{reason_number, reason_word, reasons, reason_of}
use Rattle.reasons.specs.Explain.{explained_of}
use Rattle.explaining.specs.Words.{predicted_word, head_opcode, head_address, in_the_way}

abbrev pub why_header : Bool → List ℕ
why_header full =
    text_of "index opcode clocks reason predicted" ++ cond full (text_of " head at registers") [] ++ newline

unfoldable pub numbers_text : ℕ → ℕ → ℕ → List ℕ
numbers_text index op n = decimal_of index ++ text_of " " ++ hex_of op ++ text_of " " ++ decimal_of n

unfoldable pub words_text : Reason → Answer → List ℕ
words_text x a = text_of " " ++ text_of (reason_word x) ++ text_of " " ++ text_of (predicted_word a)

unfoldable pub head_text : Window → List ℕ
head_text w = text_of " " ++ head_opcode w ++ text_of " " ++ head_address w

unfoldable pub more_text : Bool → Explained → List ℕ
more_text full x = cond full (head_text x.window ++ text_of " " ++ in_the_way x.reason x.registers) []

unfoldable pub why_line : Bool → ℕ → ℕ → Explained → List ℕ
why_line full index op x = numbers_text index op x.cost.0 ++ words_text x.reason x.answer ++ more_text full x
    ++ newline

unfoldable pub why_lines : Bool → ℕ → List Retiring → List ℕ
why_lines full index [] = []
why_lines full index (r ∷ rs) = why_line full index r.op (explained_of r) ++ why_lines full (index + 1) rs

abbrev pub counted : ℕ → List Retiring → ℕ
counted n [] = 0
counted n (r ∷ rs) = num (eqb (reason_number (reason_of r)) n) + counted n rs

unfoldable pub count_line : Reason → ℕ → List ℕ
count_line x n = text_of (reason_word x) ++ text_of " " ++ decimal_of n ++ newline

abbrev pub counts_for : List Reason → List Retiring → List ℕ
counts_for [] rs = []
counts_for (x ∷ xs) rs = count_line x (counted (reason_number x) rs) ++ counts_for xs rs

abbrev pub count_lines : Bool → List Retiring → List ℕ
count_lines full rs = cond full (counts_for reasons rs) []
