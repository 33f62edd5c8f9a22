-- Of the list of all reasons exactly the one named is kept by `fits`: by what it reads of the retirement, one case a reason.
-- Assumes nothing.
use mathlib.Core.Path.{◌≡◌, refl, sym, ap, ◌∙◌}
use mathlib.Core.Bool.{Bool, true, false, not, cond, ◌&&◌}
use mathlib.Core.List.{List, [], ◌∷◌}
use Rattle.window.specs.declared.dispatch.Rule.{Rule}
use Rattle.window.specs.declared.dispatch.Rule.TheVariants.{EssOn, BothCached, Simple, RegistersFree, NoLateCcr, OneMemory}
use Rattle.window.specs.Dispatch.{rules, first_failing, failing}
use Rattle.cost.specs.declared.branch.Answer.{Answer}
use Rattle.cost.specs.declared.branch.Answer.TheVariants.{NotConsulted, Miss, PredictedNotTaken, PredictedTaken}
use Rattle.cost.specs.Retiring.{Retiring, Point, branch, flow, neither}
use Rattle.cost.specs.Branch.{predicts_taken}
use Rattle.reasons.specs.declared.reason.Reason.{Reason}
use Rattle.reasons.specs.declared.reason.Reason.TheVariants.{Paired, WindowShut, EssOff, NotCached, NotSimple, Register, Ccr, Memory, Refill, Folded, Alone, NotTaken, Mispredicted, Static}
use Rattle.reasons.specs.Reasons.{reasons, dispatched, branch_reason, reason_by, reason_of}
use Rattle.reasons.specs.Fits.{is_branch, is_flow, is_other, point, passed, earlier, was_asked, taken, differ, fits}

-- six answers, one a rule
abbrev pick : Bool → Bool → Bool → Bool → Bool → Bool → Rule → Bool
pick a b c d e f EssOn = a
pick a b c d e f BothCached = b
pick a b c d e f Simple = c
pick a b c d e f RegistersFree = d
pick a b c d e f NoLateCcr = e
pick a b c d e f OneMemory = f

abbrev all : (Rule → Bool) → List Rule → Bool
all h [] = true
all h (rule ∷ l) = h rule && all h l

abbrev first : Bool → (Rule → Bool) → Rule → Bool
first j h rule = j && all h (earlier rule) && not (h rule)

-- `fits`, by what it reads of the retirement: the point, the cache's answer, whether it was taken, whether the window was open, and the rules
abbrev fits_by : Point → Answer → Bool → Bool → (Rule → Bool) → Reason → Bool
fits_by x a t o h Paired = (is_other x && o) && all h rules
fits_by x a t o h WindowShut = is_other x && not o
fits_by x a t o h EssOff = first (is_other x && o) h EssOn
fits_by x a t o h NotCached = first (is_other x && o) h BothCached
fits_by x a t o h NotSimple = first (is_other x && o) h Simple
fits_by x a t o h Register = first (is_other x && o) h RegistersFree
fits_by x a t o h Ccr = first (is_other x && o) h NoLateCcr
fits_by x a t o h Memory = first (is_other x && o) h OneMemory
fits_by x a t o h Refill = is_flow x
fits_by x a t o h Folded = (is_branch x && was_asked a) && predicts_taken a && t && o
fits_by x a t o h Alone = (is_branch x && was_asked a) && predicts_taken a && t && not o
fits_by x a t o h NotTaken = (is_branch x && was_asked a) && not (predicts_taken a) && not t
fits_by x a t o h Mispredicted = (is_branch x && was_asked a) && differ (predicts_taken a) t
fits_by x a t o h Static = is_branch x && not (was_asked a)

abbrev reason_from : Point → Answer → Bool → Bool → (Rule → Bool) → Reason
reason_from branch a t o h = branch_reason t o a
reason_from flow a t o h = Refill
reason_from neither a t o h = cond o (dispatched (first_failing h rules)) WindowShut

abbrev pub keep : (Reason → Bool) → List Reason → List Reason
keep f [] = []
keep f (x ∷ l) = cond (f x) (x ∷ keep f l) (keep f l)

one_behind : (x : Answer) (t : Bool) (a b c d e f : Bool)
    → keep (fits_by neither x t true (pick a b c d e f)) reasons ≡ reason_from neither x t true (pick a b c d e f) ∷ []
unfolding first_failing
one_behind x t false b c d e f = refl
one_behind x t true false c d e f = refl
one_behind x t true true false d e f = refl
one_behind x t true true true false e f = refl
one_behind x t true true true true false f = refl
one_behind x t true true true true true false = refl
one_behind x t true true true true true true = refl

one_by : (x : Point) (a : Answer) (t o : Bool) (b c d e f g : Bool) → keep (fits_by x a t o (pick b c d e f g)) reasons ≡ reason_from x a t o (pick b c d e f g) ∷ []
one_by branch NotConsulted t o b c d e f g = refl
one_by branch Miss true o b c d e f g = refl
one_by branch Miss false o b c d e f g = refl
one_by branch PredictedNotTaken true o b c d e f g = refl
one_by branch PredictedNotTaken false o b c d e f g = refl
one_by branch PredictedTaken true true b c d e f g = refl
one_by branch PredictedTaken true false b c d e f g = refl
one_by branch PredictedTaken false o b c d e f g = refl
one_by flow a t o b c d e f g = refl
one_by neither a t true b c d e f g = one_behind a t b c d e f g
one_by neither a t false b c d e f g = refl

module _ (r : Retiring) where
  abbrev told : Rule → Bool
  told = pick (passed r EssOn) (passed r BothCached) (passed r Simple) (passed r RegistersFree) (passed r NoLateCcr) (passed r OneMemory)

  abbrev pub by_parts : Reason → Bool
  by_parts = fits_by (point r) r.answer (taken r) r.window.opened told

  named : reason_of r ≡ reason_from (point r) r.answer (taken r) r.window.opened told
  unfolding reason_of failing first_failing
  named = go (point r)
    where
      go : (x : Point) → reason_by x r.instruction r.controls r.window r.answer ≡ reason_from x r.answer (taken r) r.window.opened told
      go branch = refl
      go flow = refl
      go neither = refl

  pub read : (x : Reason) → fits r x ≡ by_parts x
  unfolding fits
  read Paired = refl
  read WindowShut = refl
  read EssOff = refl
  read NotCached = refl
  read NotSimple = refl
  read Register = refl
  read Ccr = refl
  read Memory = refl
  read Refill = refl
  read Folded = refl
  read Alone = refl
  read NotTaken = refl
  read Mispredicted = refl
  read Static = refl

  pub one_kept : keep by_parts reasons ≡ reason_of r ∷ []
  one_kept = one_by (point r) r.answer (taken r) r.window.opened _ _ _ _ _ _ ∙ ap (λ (x : Reason). x ∷ []) (sym named)
