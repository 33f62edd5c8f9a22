-- Document 02, R-1: "The reason named must hold, every earlier rule must have passed, and where it fixes a cost, that
-- is the step's". When each reason fits a retirement, in document 02's words, apart from `reason_of`.
--
--   point r                       ==  which of the three points of document 01's "One retirement" it is
--   is_branch, is_flow, is_other  ==  it is this one
--   passed r rule                 ==  this rule of the dispatch test holds of it
--   all_pass r l                  ==  each of these rules does
--   same x y                      ==  two reasons are one
--   until rule l                  ==  those of the list l that stand before this rule
--   earlier rule                  ==  those of the list that the dispatch test reads
--   joinable r                    ==  it is neither branch nor flow, and the window was open
--   fails_first r rule            ==  "the first dispatch rule that failed": every earlier one has passed, this one not
--   was_asked a                   ==  the cache was asked, by its answer
--   asked r                       ==  it is a branch of which the cache was asked
--   predicted r, taken r          ==  the branch was predicted taken; it was taken
--   differ a b                    ==  of two yeses or noes, one is a yes and one a no
--   fits r x                      ==  the reason x holds of the retirement r
--   fixed_cost x                  ==  the clocks that a reason fixes, if it fixes any
--   costs_nothing x               ==  the reason is paired or folded
use Rattle.std.specs.Prelude.{ℕ, Bool, true, false, not, cond, ◌&&◌, ◌||◌, List, [], ◌∷◌, eqb}
use Rattle.std.proofs.Math.Option.{Option, none, some}
use Rattle.window.specs.declared.dispatch.Rule.{Rule}
use Rattle.window.specs.declared.dispatch.Rule.TheVariants.{
  EssOn,
  BothCached,
  Simple,
  RegistersFree,
  NoLateCcr,
  OneMemory,
}
use Rattle.window.specs.Dispatch.{rules, holds}
use Rattle.cost.specs.declared.branch.Answer.{Answer}
use Rattle.cost.specs.declared.branch.Answer.TheVariants.{NotConsulted, Miss, PredictedNotTaken, PredictedTaken}
use Rattle.cost.specs.Branch.{taken_of, predicts_taken}
use Rattle.cost.specs.Retiring.{Retiring, Point, branch, flow, neither, point_of}
use Rattle.reasons.specs.declared.reason.Reason.{Reason}
use Rattle.reasons.specs.declared.reason.Reason.TheVariants.{
  Paired,
  WindowShut,
  EssOff,
  NotCached,
  NotSimple,
  Register,
  Ccr,
  Memory,
  Refill,
  Folded,
  Alone,
  NotTaken,
  Mispredicted,
  Static,
}
use Rattle.reasons.specs.Reasons.{reason_number, of_rule}

abbrev pub is_branch : Point → Bool
is_branch branch = true
is_branch flow = false
is_branch neither = false

abbrev pub is_flow : Point → Bool
is_flow branch = false
is_flow flow = true
is_flow neither = false

abbrev pub is_other : Point → Bool
is_other branch = false
is_other flow = false
is_other neither = true

abbrev pub point : Retiring → Point
point r = point_of r.instruction r.controls

abbrev pub passed : Retiring → Rule → Bool
passed r rule = holds r.instruction r.controls r.window rule

abbrev pub all_pass : Retiring → List Rule → Bool
all_pass r [] = true
all_pass r (rule ∷ l) = passed r rule && all_pass r l

abbrev pub same : Reason → Reason → Bool
same x y = eqb (reason_number x) (reason_number y)

abbrev pub until : Rule → List Rule → List Rule
until rule [] = []
until rule (x ∷ l) = cond (same (of_rule x) (of_rule rule)) [] (x ∷ until rule l)

abbrev pub earlier : Rule → List Rule
earlier rule = until rule rules

abbrev pub joinable : Retiring → Bool
joinable r = is_other (point r) && r.window.opened

abbrev pub fails_first : Retiring → Rule → Bool
fails_first r rule = joinable r && all_pass r (earlier rule) && not (passed r rule)

abbrev pub was_asked : Answer → Bool
was_asked NotConsulted = false
was_asked Miss = true
was_asked PredictedNotTaken = true
was_asked PredictedTaken = true

abbrev pub asked : Retiring → Bool
asked r = is_branch (point r) && was_asked r.answer

abbrev pub predicted : Retiring → Bool
predicted r = predicts_taken r.answer

abbrev pub taken : Retiring → Bool
taken r = taken_of r.instruction r.controls

abbrev pub differ : Bool → Bool → Bool
differ true b = not b
differ false b = b

unfoldable pub fits : Retiring → Reason → Bool
fits r Paired = joinable r && all_pass r rules
fits r WindowShut = is_other (point r) && not r.window.opened
fits r EssOff = fails_first r EssOn
fits r NotCached = fails_first r BothCached
fits r NotSimple = fails_first r Simple
fits r Register = fails_first r RegistersFree
fits r Ccr = fails_first r NoLateCcr
fits r Memory = fails_first r OneMemory
fits r Refill = is_flow (point r)
fits r Folded = asked r && predicted r && taken r && r.window.opened
fits r Alone = asked r && predicted r && taken r && not r.window.opened
fits r NotTaken = asked r && not (predicted r) && not (taken r)
fits r Mispredicted = asked r && differ (predicted r) (taken r)
fits r Static = is_branch (point r) && not (was_asked r.answer)

abbrev pub fixed_cost : Reason → Option ℕ
fixed_cost Paired = some 0
fixed_cost WindowShut = none
fixed_cost EssOff = none
fixed_cost NotCached = none
fixed_cost NotSimple = none
fixed_cost Register = none
fixed_cost Ccr = none
fixed_cost Memory = none
fixed_cost Refill = none
fixed_cost Folded = some 0
fixed_cost Alone = some 1
fixed_cost NotTaken = some 1
fixed_cost Mispredicted = some 7
fixed_cost Static = none

abbrev pub costs_nothing : Reason → Bool
costs_nothing x = same x Paired || same x Folded
