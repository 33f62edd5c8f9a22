-- The number of the cache's answer is at most 3, and the answer of its number is the answer.
-- Assumes nothing.
use Rattle.std.proofs.Common.{◌≡◌, ◌≤◌, refl, arith}
use Rattle.cost.specs.declared.branch.Answer.{Answer}
use Rattle.cost.specs.declared.branch.Answer.TheVariants.{NotConsulted, Miss, PredictedNotTaken, PredictedTaken}
use Rattle.cost.specs.Branch.{answer_number, answer_at}

pub number_most : (a : Answer) → answer_number a ≤ 3
number_most NotConsulted = omega arith
number_most Miss = omega arith
number_most PredictedNotTaken = omega arith
number_most PredictedTaken = omega arith

pub answer_back : (a : Answer) → answer_at (answer_number a) ≡ a
answer_back NotConsulted = refl
answer_back Miss = refl
answer_back PredictedNotTaken = refl
answer_back PredictedTaken = refl
