-- The step of a state, from what each call gave: a branch, an instruction that becomes the head, and one that does not.
-- Assumes nothing.
use mathlib.Core.Path.{◌≡◌, sym, ap, ◌∙◌}
use mathlib.Core.Bool.{true, false}
use Rattle.class_word.specs.declared.Clocks.{Clocks}
use Rattle.class_word.specs.Word.{has, clocks, BRANCH, DBCC}
use Rattle.branch_cache.specs.declared.BranchCache060.{BranchCache060}
use Rattle.window.specs.declared.dispatch.Instruction.{Instruction}
use Rattle.window.specs.declared.dispatch.Controls.{Controls}
use Rattle.window.specs.declared.Window.{Window}
use Rattle.window.specs.Windows.{shut}
use Rattle.cost.specs.declared.branch.Answer.{Answer}
use Rattle.cost.specs.declared.branch.Answer.TheVariants.{NotConsulted}
use Rattle.cost.specs.declared.branch.BranchCost.{BranchCost}
use Rattle.cost.specs.declared.Charged.{Charged}
use Rattle.cost.specs.Retiring.{Retiring, Point, other_point}
use Rattle.cost.specs.Branch.{taken_of, branch_of}
use Rattle.cost.specs.Cost.{as_head, cost_by, window_by, charged_by, cost_of, window_of}
use Rattle.cost.proofs.Led.{led_open, led_shut, kind_branch, kind_other, other_cost}
use Rattle.state.specs.declared.Retirement.{Retirement}
use Rattle.state.specs.declared.Oep060Timing.{Oep060Timing}
use Rattle.state.specs.declared.Stepped.{Stepped}
use Rattle.state.specs.Events.{as_met, answer_of, cache_after}
use Rattle.state.specs.CrateCache.{crate_cache}
use Rattle.state.specs.Timing.{state_of, Asked, asked, asked_of, stepped_by}

-- a next state, a cost and an answer
abbrev pub left : BranchCache060 → Window → Clocks → Answer → Stepped
left c w n a = record { timing = record { cache = c; window = w }; cost = n; answer = a }

untouched : (c : BranchCache060) (i : Instruction) (k : Controls) → has i.word.0 BRANCH ≡ false → c ≡ cache_after crate_cache c i k
unfolding cache_after
untouched c i k e = rw e

unasked : (c : BranchCache060) (i : Instruction) (k : Controls) → has i.word.0 BRANCH ≡ false → NotConsulted ≡ answer_of crate_cache c i k
unfolding answer_of
unasked c i k e = rw e

module _ (t : Oep060Timing) (i : Instruction) (r : Retirement) where
  abbrev k : Controls
  k = r.controls

  abbrev met : Retiring
  met = as_met crate_cache (state_of t) i r

  abbrev answer : Answer
  answer = answer_of crate_cache t.cache i k

  stepped : {n : Clocks} → n ≡ clocks (cost_of met) → {c : BranchCache060} → c ≡ cache_after crate_cache t.cache i k → {w : Window} → w ≡ window_of met
      → {a : Answer} → a ≡ answer → left c w n a ≡ stepped_by t i r
  unfolding stepped_by
  stepped e h o x = rw (e, h, o, x)

  pub stepped_branch : has i.word.0 BRANCH ≡ true → {a : Answer} {c : BranchCache060} → asked a c ≡ asked_of t.cache i k
      → {n : BranchCost} → n ≡ branch_of (has i.word.0 DBCC) (taken_of i k) t.window.opened a → left c shut n.cost n.answer ≡ stepped_by t i r
  unfolding cost_of window_of
  stepped_branch b x e =
      let kind = sym (kind_branch i k b) in
      let told = e ∙ ap (λ (y : Asked). branch_of (has i.word.0 DBCC) (taken_of i k) t.window.opened y.answer) x in
      stepped
      (ap (λ (y : BranchCost). y.cost) told ∙ ap (λ (y : Point). clocks (cost_by y i k t.window answer)) kind)
      (ap (λ (y : Asked). y.cache) x) (ap (λ (y : Point). window_by y r.op i k t.window) kind)
      (ap (λ (y : BranchCost). y.answer) told)

  module _ {c : Charged} (no : has i.word.0 BRANCH ≡ false) (e : c ≡ charged_by (other_point k) i k t.window NotConsulted) where
    other : {w : Window} → w ≡ window_by (other_point k) r.op i k t.window → left t.cache w c.cost NotConsulted ≡ stepped_by t i r
    unfolding cost_of window_of
    other o =
        let kind = sym (kind_other i k no) in
        stepped
        (ap (λ (x : Charged). x.cost) e ∙ ap clocks (other_cost i k t.window NotConsulted answer ∙ ap (λ (y : Point). cost_by y i k t.window answer) kind))
        (untouched t.cache i k no) (o ∙ ap (λ (y : Point). window_by y r.op i k t.window) kind) (unasked t.cache i k no)

    pub stepped_open : c.heads ≡ true → left t.cache (as_head r.op i k) c.cost NotConsulted ≡ stepped_by t i r
    stepped_open b = other (sym (led_open (other_point k) r.op i k t.window (sym (ap (λ (x : Charged). x.heads) e) ∙ b)))

    pub stepped_shut : c.heads ≡ false → left t.cache shut c.cost NotConsulted ≡ stepped_by t i r
    stepped_shut b = other (sym (led_shut (other_point k) r.op i k t.window (sym (ap (λ (x : Charged). x.heads) e) ∙ b)))
