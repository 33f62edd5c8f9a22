-- Document 01, "One retirement", its first point: a branch, and what it costs. The Rust: branch_cost_060, and
-- cycles_060's case of a branch.
--
--   taken_of i k                       ==  a branch is taken
--                                          "taken is `flowed`; for DBcc it is pc different from ppc + 4 modulo 2^32,
--                                          `flowed` ignored"
--   predicts_taken a                   ==  the cache predicted the branch taken; a miss does not (the Rust's
--                                          `predict(..).unwrap_or(false)`), nor does a cache that was not asked
--   static_cost dbcc taken             ==  a branch of which the cache was not asked
--                                          "DBcc 2 taken, 3 expired; others 7 taken, 1 not"
--   asked_cost predicted taken opened  ==  a branch of which the cache was asked
--                                          "predicted and taken costs 0 if the window was open, else 1; neither costs
--                                          1; a mismatch costs 7"
--   branch_cost dbcc taken opened a    ==  the one or the other, by the cache's answer
--   answer_number a                    ==  the number of the cache's answer. Document 02, R-5: "not consulted, miss,
--                                          predicted not taken, predicted taken"; "0 to 3 in this order"
--   answer_at n                        ==  the answer of a number; one that is no answer's is read as the last
--   heard p                            ==  what the cache predicted, as an answer
--   branch_of dbcc taken opened a      ==  what a branch costs, and the answer. Document 02, R-5: "The branch cost
--                                          shall also answer"
use Rattle.std.specs.Prelude.{ℕ, ◌+◌, ◌%◌, ◌^◌, Bool, true, false, cond, not, ◌==◌, Option, Some, None}
use Rattle.class_word.specs.Word.{has, clocks, DBCC}
use Rattle.window.specs.declared.dispatch.Instruction.{Instruction}
use Rattle.window.specs.declared.dispatch.Controls.{Controls}
use Rattle.cost.specs.declared.branch.Answer.{Answer}
use Rattle.cost.specs.declared.branch.Answer.TheVariants.{NotConsulted, Miss, PredictedNotTaken, PredictedTaken}
use Rattle.cost.specs.declared.branch.BranchCost.{BranchCost}

unfoldable pub taken_of : Instruction → Controls → Bool
taken_of i k = cond (has i.word.0 DBCC) (not (k.pc == (k.ppc + 4) % 2 ^ 32)) k.flowed

abbrev pub predicts_taken : Answer → Bool
predicts_taken NotConsulted = false
predicts_taken Miss = false
predicts_taken PredictedNotTaken = false
predicts_taken PredictedTaken = true

abbrev pub static_cost : Bool → Bool → ℕ
static_cost dbcc taken = cond dbcc (cond taken 2 3) (cond taken 7 1)

abbrev pub asked_cost : Bool → Bool → Bool → ℕ
asked_cost true true opened = cond opened 0 1
asked_cost true false opened = 7
asked_cost false true opened = 7
asked_cost false false opened = 1

abbrev pub branch_cost : Bool → Bool → Bool → Answer → ℕ
branch_cost dbcc taken opened NotConsulted = static_cost dbcc taken
branch_cost dbcc taken opened Miss = asked_cost (predicts_taken Miss) taken opened
branch_cost dbcc taken opened PredictedNotTaken = asked_cost (predicts_taken PredictedNotTaken) taken opened
branch_cost dbcc taken opened PredictedTaken = asked_cost (predicts_taken PredictedTaken) taken opened

abbrev pub answer_number : Answer → ℕ
answer_number NotConsulted = 0
answer_number Miss = 1
answer_number PredictedNotTaken = 2
answer_number PredictedTaken = 3

abbrev pub answer_at : ℕ → Answer
answer_at n = cond (n == 0) NotConsulted (cond (n == 1) Miss (cond (n == 2) PredictedNotTaken PredictedTaken))

abbrev pub heard : Option Bool → Answer
heard None = Miss
heard (Some false) = PredictedNotTaken
heard (Some true) = PredictedTaken

abbrev pub branch_of : Bool → Bool → Bool → Answer → BranchCost
branch_of dbcc taken opened a = record { cost = clocks (branch_cost dbcc taken opened a); answer = a }
