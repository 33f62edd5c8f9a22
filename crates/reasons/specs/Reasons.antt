-- Document 02, R-1: "one reason per retirement". The Rust has none: a reason says which way soep_dispatch_test,
-- branch_cost_060 and cycles_060 went.
--
--   Reason                               ==  the fourteen reasons: the enum of the code
--   Row, row n word                      ==  a row of the table of reasons
--   table x                              ==  the row of a reason: its number, and the word that the desk reads
--   reason_number x, reason_word x       ==  the row's two parts
--   reasons                              ==  the reasons in the table's order
--   of_rule rule                         ==  the reason that this rule of the dispatch test failed
--   dispatched d                         ==  "paired .. or the first dispatch rule that failed, in document 01's order"
--   other_reason i k w                   ==  "Other than branches and flow: paired, window shut, or the first dispatch
--                                            rule that failed"; `failing`, which the dispatch test reads, names the
--                                            rule
--   asked_reason predicted taken opened  ==  a branch of which the cache was asked
--                                            "folded, predicted but alone, rightly not taken, mispredicted"
--   branch_reason taken opened a         ==  the same by the cache's answer
--                                            "or static cost", where it was not asked
--   reason_by                            ==  one line for each of document 01's three points
--                                            "Flow: refill"
--   reason_of r                          ==  the reason of a retirement as it is met
--   shared r                             ==  the registers that stand in the way: those that both "(use or def)" and
--                                            "the head's def" have
use Rattle.std.specs.Prelude.{ℕ, Bool, true, false, cond, List, [], ◌∷◌, None, Option, Some}
use Prim.Native.String.{String}
use Rattle.std.specs.Int.Bits.{bit_and, bit_or}
use Rattle.window.specs.declared.dispatch.Instruction.{Instruction}
use Rattle.window.specs.declared.dispatch.Controls.{Controls}
use Rattle.window.specs.declared.dispatch.Rule.{Rule}
use Rattle.window.specs.declared.dispatch.Rule.TheVariants.{
  EssOn,
  BothCached,
  Simple,
  RegistersFree,
  NoLateCcr,
  OneMemory,
}
use Rattle.window.specs.declared.Window.{Window}
use Rattle.window.specs.Dispatch.{failing}
use Rattle.cost.specs.declared.branch.Answer.{Answer}
use Rattle.cost.specs.declared.branch.Answer.TheVariants.{NotConsulted, Miss, PredictedNotTaken, PredictedTaken}
use Rattle.cost.specs.Branch.{taken_of, predicts_taken}
use Rattle.cost.specs.Retiring.{Retiring, Point, branch, flow, neither, point_of}
use Rattle.reasons.specs.declared.reason.Reason.{Reason}
use Rattle.reasons.specs.declared.reason.Reason.TheVariants.{
  Paired,
  WindowShut,
  EssOff,
  NotCached,
  NotSimple,
  Register,
  Ccr,
  Memory,
  Refill,
  Folded,
  Alone,
  NotTaken,
  Mispredicted,
  Static,
}

pub record Row : Type 0 where
  pub number : ℕ
  pub word : String

abbrev pub row : ℕ → String → Row
row n word = record { number = n; word = word }

abbrev pub table : Reason → Row
table Paired = row 0 "paired"
table WindowShut = row 1 "window-shut"
table EssOff = row 2 "ess-off"
table NotCached = row 3 "not-cached"
table NotSimple = row 4 "not-simple"
table Register = row 5 "register"
table Ccr = row 6 "ccr"
table Memory = row 7 "memory"
table Refill = row 8 "refill"
table Folded = row 9 "folded"
table Alone = row 10 "alone"
table NotTaken = row 11 "not-taken"
table Mispredicted = row 12 "mispredicted"
table Static = row 13 "static"

abbrev pub reason_number : Reason → ℕ
reason_number x = (table x).number

abbrev pub reason_word : Reason → String
reason_word x = (table x).word

abbrev pub reasons : List Reason
reasons =
    Paired
    ∷ WindowShut
    ∷ EssOff
    ∷ NotCached
    ∷ NotSimple
    ∷ Register
    ∷ Ccr
    ∷ Memory
    ∷ Refill
    ∷ Folded
    ∷ Alone
    ∷ NotTaken
    ∷ Mispredicted
    ∷ Static
    ∷ []

abbrev pub of_rule : Rule → Reason
of_rule EssOn = EssOff
of_rule BothCached = NotCached
of_rule Simple = NotSimple
of_rule RegistersFree = Register
of_rule NoLateCcr = Ccr
of_rule OneMemory = Memory

abbrev pub dispatched : Option Rule → Reason
dispatched None = Paired
dispatched (Some rule) = of_rule rule

abbrev pub other_reason : Instruction → Controls → Window → Reason
other_reason i k w = cond w.opened (dispatched (failing i k w)) WindowShut

abbrev pub asked_reason : Bool → Bool → Bool → Reason
asked_reason true true opened = cond opened Folded Alone
asked_reason true false opened = Mispredicted
asked_reason false true opened = Mispredicted
asked_reason false false opened = NotTaken

abbrev pub branch_reason : Bool → Bool → Answer → Reason
branch_reason taken opened NotConsulted = Static
branch_reason taken opened Miss = asked_reason (predicts_taken Miss) taken opened
branch_reason taken opened PredictedNotTaken = asked_reason (predicts_taken PredictedNotTaken) taken opened
branch_reason taken opened PredictedTaken = asked_reason (predicts_taken PredictedTaken) taken opened

abbrev pub reason_by : Point → Instruction → Controls → Window → Answer → Reason
reason_by branch i k w a = branch_reason (taken_of i k) w.opened a
reason_by flow i k w a = Refill
reason_by neither i k w a = other_reason i k w

unfoldable pub reason_of : Retiring → Reason
reason_of r = reason_by (point_of r.instruction r.controls) r.instruction r.controls r.window r.answer

abbrev pub shared : Retiring → ℕ
shared r = bit_and (bit_or r.instruction.uses r.instruction.defs) r.window.defs
