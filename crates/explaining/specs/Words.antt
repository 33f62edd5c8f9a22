-- Document 02, R-1: what stands in the columns of `why`. The columns `head`, `at` and `registers` are the project's
-- own, and so is how each is written. The Rust has none.
--
--   predicted_word a      ==  what the cache predicted, as a word. R-5: "not consulted, miss, predicted not taken,
--                             predicted taken"
--   dash                  ==  `-`: in both columns of the head where the window is shut, and where no register stands
--                             in the way
--   register_name n       ==  the name of the register of bit n of a mask: `D0` to `D7`, then `A0` to `A7`
--   comma mask n          ==  a comma, where a register of the mask stands before that of bit n
--   register_text mask n  ==  what bit n adds to the registers: its name behind the comma, or nothing if it is not set
--   registers_of mask     ==  the registers of a mask in rising order, as `D1` or `D3,A0`
--   in_the_way x mask     ==  the registers that stand in the way where the reason x is `register`, else a dash
--   head_opcode w         ==  the opcode of the window's head, as four upper-case hexadecimal digits
--   head_address w        ==  its address, as eight
use Rattle.std.specs.Prelude.{ℕ, ◌-◌, ◌%◌, ◌^◌, cond, List, [], ◌++◌, eqb, ltb}
use Prim.Native.String.{String}
use Rattle.bits.specs.Words.{bit}
use Rattle.text.specs.Written.{text_of}
use Rattle.text.specs.Decimal.{decimal_of}
use Rattle.text.specs.Hex.{hex_of, hex_long_of}
use Rattle.rule_text.specs.Each.{each_from}
use Rattle.window.specs.declared.Window.{Window}
use Rattle.cost.specs.declared.branch.Answer.{Answer}
use Rattle.cost.specs.declared.branch.Answer.TheVariants.{NotConsulted, Miss, PredictedNotTaken, PredictedTaken}
use Rattle.reasons.specs.declared.reason.Reason.{Reason}
use Rattle.reasons.specs.declared.reason.Reason.TheVariants.{Register}
use Rattle.reasons.specs.Reasons.{reason_number}

abbrev pub predicted_word : Answer → String
predicted_word NotConsulted = "not-consulted"
predicted_word Miss = "miss"
predicted_word PredictedNotTaken = "predicted-not-taken"
predicted_word PredictedTaken = "predicted-taken"

abbrev pub dash : List ℕ
dash = text_of "-"

unfoldable pub register_name : ℕ → List ℕ
register_name n = cond (ltb n 8) (text_of "D" ++ decimal_of n) (text_of "A" ++ decimal_of (n - 8))

unfoldable pub comma : ℕ → ℕ → List ℕ
comma mask n = cond (eqb (mask % 2 ^ n) 0) [] (text_of ",")

unfoldable pub register_text : ℕ → ℕ → List ℕ
register_text mask n = cond (bit n mask) (comma mask n ++ register_name n) []

abbrev pub registers_of : ℕ → List ℕ
registers_of mask = each_from 0 16 (register_text mask)

abbrev pub in_the_way : Reason → ℕ → List ℕ
in_the_way x mask = cond (eqb (reason_number x) (reason_number Register)) (registers_of mask) dash

abbrev pub head_opcode : Window → List ℕ
head_opcode w = cond w.opened (hex_of w.op) dash

abbrev pub head_address : Window → List ℕ
head_address w = cond w.opened (hex_long_of w.address) dash
