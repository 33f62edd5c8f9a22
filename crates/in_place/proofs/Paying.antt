-- One retirement in place is the step of the state that the lent numbers stand for.
-- Assumes nothing.
use mathlib.Core.Path.{◌≡◌, refl, sym, ap, ap₂, ◌∙◌}
use mathlib.Core.Bool.{Bool, true, false, cond}
use mathlib.Core.List.{List}
use Prim.Native.Nat.{ℕ}
use Rattle.class_word.specs.declared.Clocks.{Clocks}
use Rattle.class_word.specs.Word.{has, clocks, BRANCH, DBCC}
use Rattle.branch_cache.specs.Cache.{cache_at}
use Rattle.window.specs.declared.dispatch.Instruction.{Instruction}
use Rattle.window.specs.declared.dispatch.Controls.{Controls}
use Rattle.window.specs.declared.Window.{Window}
use Rattle.window.specs.Windows.{shut}
use Rattle.cost.specs.declared.branch.Answer.{Answer}
use Rattle.cost.specs.declared.branch.Answer.TheVariants.{NotConsulted}
use Rattle.cost.specs.declared.branch.BranchCost.{BranchCost}
use Rattle.cost.specs.declared.Charged.{Charged}
use Rattle.cost.specs.Retiring.{Point, flow, neither, other_point}
use Rattle.cost.specs.Branch.{taken_of, answer_number, branch_of}
use Rattle.cost.specs.Cost.{flow_cost, as_head, charged_by}
use Rattle.profile.specs.declared.Profile.{Profile}
use Rattle.profile.specs.Profile.{profile_of}
use Rattle.state.specs.declared.Retirement.{Retirement}
use Rattle.state.specs.Timing.{asked, asked_of, stepped_by}
use Rattle.state.proofs.Stepping.{stepped_branch, stepped_open, stepped_shut}
use Rattle.in_place.specs.WindowNumbers.{window_at, numbers_of}
use Rattle.in_place.specs.Lent.{Lent, lent, state_at}
use Rattle.in_place.specs.Retire.{Paid, paid, paid_of, retire_by_of, retire_at_of}

-- what is told, x and y, is the clocks n and the number of the answer a
abbrev Tells : Clocks → ℕ → Clocks → Answer → Type 0
Tells x y n a = (x ≡ n) × (y ≡ answer_number a)

telling : (a : Answer) {x n : Clocks} {y : ℕ} → Tells x y n a → {ts bs ns ms : List ℕ} → ns ≡ ms → paid x y (lent ts bs ns) ≡ paid n (answer_number a) (lent ts bs ms)
telling a h q = rw (h.0, h.1, q)

module _ (l : Lent) (i : Instruction) (r : Retirement) {ns : List ℕ} {x : Clocks} {y : ℕ} where
  pub paid_branch : has i.word.0 BRANCH ≡ true → {a : Answer} {ts bs : List ℕ} → asked a (cache_at ts bs) ≡ asked_of (cache_at l.tags l.state) i r.controls
      → {n : BranchCost} → n ≡ branch_of (has i.word.0 DBCC) (taken_of i r.controls) (window_at l.window).opened a → ns ≡ numbers_of shut
      → Tells x y n.cost n.answer → paid x y (lent ts bs ns) ≡ paid_of (stepped_by (state_at l) i r)
  paid_branch b f {n} e q h = telling n.answer h q ∙ ap paid_of (stepped_branch (state_at l) i r b f e)

  module _ {c : Charged} (no : has i.word.0 BRANCH ≡ false) (e : c ≡ charged_by (other_point r.controls) i r.controls (window_at l.window) NotConsulted) where
    pub paid_open : c.heads ≡ true → ns ≡ numbers_of (as_head r.op i r.controls) → Tells x y c.cost NotConsulted → paid x y (lent l.tags l.state ns) ≡ paid_of (stepped_by (state_at l) i r)
    paid_open b q h = telling NotConsulted h q ∙ ap paid_of (stepped_open (state_at l) i r no e b)

    pub paid_shut : c.heads ≡ false → ns ≡ numbers_of shut → Tells x y c.cost NotConsulted → paid x y (lent l.tags l.state ns) ≡ paid_of (stepped_by (state_at l) i r)
    paid_shut b q h = telling NotConsulted h q ∙ ap paid_of (stepped_shut (state_at l) i r no e b)

-- which of the last two points it is
point_is : (k : Controls) {b : Bool} → k.flowed ≡ b → cond b flow neither ≡ other_point k
point_is k e = sym (ap (λ (b : Bool). cond b flow neither) e)

-- a change of flow shuts the window
pub paid_flow : (l : Lent) (i : Instruction) (r : Retirement) {ns : List ℕ} {x : Clocks} {y : ℕ} → has i.word.0 BRANCH ≡ false → r.controls.flowed ≡ true → ns ≡ numbers_of shut
    → Tells x y (clocks (flow_cost r.controls.raw.0)) NotConsulted → paid x y (lent l.tags l.state ns) ≡ paid_of (stepped_by (state_at l) i r)
paid_flow l i r other f q h = let k = r.controls in paid_shut l i r other (ap (λ (p : Point). charged_by p i k (window_at l.window) NotConsulted) (point_is k f)) refl q h

-- what changed no flow is charged as neither
pub charged_neither : (i : Instruction) (k : Controls) (w : Window) → k.flowed ≡ false → charged_by neither i k w NotConsulted ≡ charged_by (other_point k) i k w NotConsulted
charged_neither i k w f = ap (λ (p : Point). charged_by p i k w NotConsulted) (point_is k f)

-- a retirement by what was looked up, the lent numbers as they were, is the profile's
pub paid_looked_up : (p : Profile) (r : Retirement) (i : Instruction) {m l : Lent} {x : Paid} → x ≡ retire_by_of i r.op r.controls m → m ≡ l → i ≡ profile_of p r.op → x ≡ retire_at_of p l r
paid_looked_up p r i e f g = e ∙ ap₂ (λ (j : Instruction) (k : Lent). retire_by_of j r.op r.controls k) g f
