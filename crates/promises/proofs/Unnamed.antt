-- The head's opcode and address enter no cost: no test of a retirement looks at them, so neither costs nor what else is left differ.
-- Assumes nothing.
use mathlib.Core.Path.{◌≡◌, refl, sym, ap, ap₂, ◌∙◌}
use mathlib.Core.Bool.{Bool, true, false, cond}
use mathlib.Core.List.{List, [], ◌∷◌}
use Rattle.window.specs.declared.dispatch.Instruction.{Instruction}
use Rattle.window.specs.declared.dispatch.Controls.{Controls}
use Rattle.window.specs.declared.Window.{Window}
use Rattle.window.specs.Windows.{shut, seen, unnamed}
use Rattle.window.specs.Dispatch.{holds, first_failing, failing}
use Rattle.cost.specs.declared.branch.Answer.{Answer}
use Rattle.cost.specs.Retiring.{Point, branch, flow, neither, point_of}
use Rattle.cost.specs.Cost.{pairs, as_head, cost_by, heads_by, cost_of, window_of}
use Rattle.state.specs.declared.Retirement.{Retirement}
use Rattle.state.specs.declared.Event.{Event}
use Rattle.state.specs.declared.Event.TheVariants.{Retired, Broken, ClearedAll, ClearedUser}
use Rattle.state.specs.Board.{Board}
use Rattle.state.specs.Events.{State, retiring_of, after, retirements, finally, costs, answer_of, cache_after}
use Rattle.promises.specs.Heads.{unnamed_state}

module _ (i : Instruction) (k : Controls) (w : Window) where
  cost_unnamed : (x : Point) (a : Answer) → cost_by x i k (unnamed w) a ≡ cost_by x i k w a
  unfolding pairs failing first_failing holds
  cost_unnamed branch a = refl
  cost_unnamed flow a = refl
  cost_unnamed neither a = refl

  heads_unnamed : (x : Point) → heads_by x i k (unnamed w) ≡ heads_by x i k w
  unfolding pairs failing first_failing holds
  heads_unnamed branch = refl
  heads_unnamed flow = refl
  heads_unnamed neither = refl

seen_unnamed : (w : Window) → unnamed (seen w) ≡ seen (unnamed w)
seen_unnamed w = go w.opened
  where
    go : (o : Bool) → unnamed (cond o w shut) ≡ cond o (unnamed w) shut
    go true = refl
    go false = refl

module _ (B : Board) where
  abbrev S : Type 0
  S = State B.rule

  abbrev bare : S → S
  bare s = unnamed_state B s

  -- ---- one event

  cost_bare : (s : S) (r : Retirement) → cost_of (retiring_of B (bare s) r) ≡ cost_of (retiring_of B s r)
  unfolding cost_of
  cost_bare s r =
      let i = B.profile r.op in
      cost_unnamed i r.controls s.window (point_of i r.controls) (answer_of B.rule s.cache i r.controls)

  window_bare : (s : S) (r : Retirement) → window_of (retiring_of B (bare s) r) ≡ window_of (retiring_of B s r)
  unfolding window_of
  window_bare s r =
      let i = B.profile r.op in
      let k = r.controls in
      ap (λ (h : Bool). cond h (as_head r.op i k) shut) (heads_unnamed i k s.window (point_of i k))

  after_bare : (s : S) (e : Event) → bare (after B (bare s) e) ≡ bare (after B s e)
  after_bare s (Retired r) =
      ap (λ (w : Window). record { cache = cache_after B.rule s.cache (B.profile r.op) r.controls; window = unnamed w }) (window_bare s r)
  after_bare s Broken = refl
  after_bare s ClearedAll = ap (λ (w : Window). record { cache = B.rule.clear_all s.cache; window = w }) (ap unnamed (sym (seen_unnamed s.window)))
  after_bare s ClearedUser = ap (λ (w : Window). record { cache = B.rule.clear_user s.cache; window = w }) (ap unnamed (sym (seen_unnamed s.window)))

  -- ---- any events, from two states that differ only there

  same_cost : (s t : S) → bare s ≡ bare t → (r : Retirement) → cost_of (retiring_of B s r) ≡ cost_of (retiring_of B t r)
  same_cost s t e r = sym (cost_bare s r) ∙ ap (λ (x : S). cost_of (retiring_of B x r)) e ∙ cost_bare t r

  same_after : (s t : S) → bare s ≡ bare t → (x : Event) → bare (after B s x) ≡ bare (after B t x)
  same_after s t e x = sym (after_bare s x) ∙ ap (λ (y : S). bare (after B y x)) e ∙ after_bare t x

  pub same_costs_lem : (s t : S) → bare s ≡ bare t → (es : List Event) → costs B s es ≡ costs B t es
  unfolding retirements
  same_costs_lem s t e [] = refl
  same_costs_lem s t e (Retired r ∷ es) =
      ap₂ ◌∷◌ (same_cost s t e r) (same_costs_lem (after B s (Retired r)) (after B t (Retired r)) (same_after s t e (Retired r)) es)
  same_costs_lem s t e (Broken ∷ es) = same_costs_lem (after B s Broken) (after B t Broken) (same_after s t e Broken) es
  same_costs_lem s t e (ClearedAll ∷ es) = same_costs_lem (after B s ClearedAll) (after B t ClearedAll) (same_after s t e ClearedAll) es
  same_costs_lem s t e (ClearedUser ∷ es) = same_costs_lem (after B s ClearedUser) (after B t ClearedUser) (same_after s t e ClearedUser) es

  pub same_next_lem : (s t : S) → bare s ≡ bare t → (es : List Event) → bare (finally B s es) ≡ bare (finally B t es)
  unfolding finally
  same_next_lem s t e [] = e
  same_next_lem s t e (x ∷ es) = same_next_lem (after B s x) (after B t x) (same_after s t e x) es
