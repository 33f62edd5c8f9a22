-- Demand 3's bounds are reached: MOVEQ into D0 and D1 by turns.
-- Assumes nothing.
use mathlib.Core.Path.{◌≡◌, refl, ap, ap₂, ◌∙◌}
use mathlib.Core.Bool.{Bool, true, false, not}
use mathlib.Core.List.{List, [], ◌∷◌}
use Prim.Native.Nat.{ℕ, zero, suc, ◌+◌, ◌/◌}
use native.Mathlib.Omega.{arith}
use lib.ListN.{length}
use lib.IntN.{pos}
use Rattle.class_word.specs.Word.{info}
use Rattle.window.specs.declared.dispatch.Instruction.{Instruction}
use Rattle.window.specs.declared.dispatch.Controls.{Controls}
use Rattle.window.specs.declared.Window.{Window}
use Rattle.cost.specs.declared.branch.Answer.{Answer}
use Rattle.cost.specs.Retiring.{Retiring, point_of}
use Rattle.window.specs.Windows.{shut}
use Rattle.window.specs.Dispatch.{failing, first_failing, holds, is_simple}
use Rattle.cost.specs.Cost.{cost_of, window_of, pairs, plain_of, base_of}
use Rattle.state.specs.declared.Retirement.{Retirement}
use Rattle.state.specs.declared.Event.{Event}
use Rattle.state.specs.declared.Event.TheVariants.{Retired}
use Rattle.state.specs.Board.{Board}
use Rattle.state.specs.Events.{State, retiring_of, after, cache_after, retirements, costs, total, answer_of}

-- MOVEQ: class 0, 1 clock, defines the CCR; uses nothing, and defines what is given
abbrev pub moveq : ℕ → Instruction
moveq d = record { word = info 0x0404; uses = 0; defs = d }

abbrev pub calm : Controls
calm = record { flowed = false; cached = true; ess = true; ebc = true; supervisor = true; ppc = 0; pc = 2; raw = record { 0 = pos 4 } }

-- the window that MOVEQ into D0 opens, of this opcode
abbrev pub opened₀ : ℕ → Window
opened₀ op = record { opened = true; defs = 1; ccr = true; mem = false; warm = true; op = op; address = 0 }

abbrev met : ℕ → Instruction → Window → Answer → Retiring
met op i w a = record { op = op; instruction = i; controls = calm; window = w; answer = a }

module _ (op₀ op₁ : ℕ) (a : Answer) where
  head_cost : cost_of (met op₀ (moveq 1) shut a) ≡ 1
  unfolding cost_of point_of pairs base_of plain_of
  head_cost = refl

  head_opens : window_of (met op₀ (moveq 1) shut a) ≡ opened₀ op₀
  unfolding window_of point_of pairs
  head_opens = refl

  tail_cost : cost_of (met op₁ (moveq 2) (opened₀ op₀) a) ≡ 0
  unfolding cost_of point_of pairs base_of plain_of failing first_failing holds is_simple
  tail_cost = refl

  tail_shuts : window_of (met op₁ (moveq 2) (opened₀ op₀) a) ≡ shut
  unfolding window_of point_of pairs failing first_failing holds is_simple
  tail_shuts = refl

module _ (B : Board) (op₀ op₁ : ℕ) (e₀ : B.profile op₀ ≡ moveq 1) (e₁ : B.profile op₁ ≡ moveq 2) where
  -- the two kinds of turn: `false` from a shut window, `true` from the one that D0's MOVEQ opened
  abbrev pub window : Bool → Window
  window false = shut
  window true = opened₀ op₀

  abbrev op : Bool → ℕ
  op false = op₀
  op true = op₁

  abbrev event : Bool → Retirement
  event b = record { op = op b; controls = calm }

  abbrev price : Bool → ℕ
  price false = 1
  price true = 0

  abbrev pub moveqs : Bool → ℕ → List Event
  moveqs b zero = []
  moveqs b (suc n) = Retired (event b) ∷ moveqs (not b) n

  abbrev pub start : B.rule.Cache → Bool → State B.rule
  start c b = record { cache = c; window = window b }

  costs_price : (c : B.rule.Cache) (b : Bool) → cost_of (retiring_of B (start c b) (event b)) ≡ price b
  costs_price c false = ap (λ (i : Instruction). cost_of (met op₀ i shut (answer_of B.rule c i calm))) e₀ ∙ head_cost op₀ op₁ _
  costs_price c true = ap (λ (i : Instruction). cost_of (met op₁ i (opened₀ op₀) (answer_of B.rule c i calm))) e₁ ∙ tail_cost op₀ op₁ _

  abbrev later : B.rule.Cache → ℕ → Window → Instruction → State B.rule
  later c op w i = record { cache = cache_after B.rule c i calm; window = window_of (met op i w (answer_of B.rule c i calm)) }

  turns : (c : B.rule.Cache) (b : Bool) → after B (start c b) (Retired (event b)) ≡ start c (not b)
  unfolding cache_after
  turns c false = ap (later c op₀ shut) e₀ ∙ ap (λ (w : Window). record { cache = c; window = w }) (head_opens op₀ op₁ _)
  turns c true = ap (later c op₁ (opened₀ op₀)) e₁ ∙ ap (λ (w : Window). record { cache = c; window = w }) (tail_shuts op₀ op₁ _)

  pub counted : (n : ℕ) (b : Bool) (s : State B.rule) → length (retirements B s (moveqs b n)) ≡ n
  unfolding retirements
  counted zero b s = refl
  counted (suc n) b s = ap suc (counted n (not b) (after B s (Retired (event b))))

  -- half, rounded up from a shut window and down from the open one
  abbrev pub half : Bool → ℕ → ℕ
  half false n = (n + 1) / 2
  half true n = n / 2

  halves : (n : ℕ) (b : Bool) → price b + half (not b) n ≡ half b (suc n)
  halves n false = omega arith
  halves n true = omega arith

  none_cost : (b : Bool) → 0 ≡ half b 0
  none_cost true = refl
  none_cost false = refl

  pub reached : (n : ℕ) (b : Bool) (c : B.rule.Cache) → total (costs B (start c b) (moveqs b n)) ≡ half b n
  unfolding retirements
  reached zero b c = none_cost b
  reached (suc n) b c =
      ap₂ ◌+◌ (costs_price c b) (ap (λ (s : State B.rule). total (costs B s (moveqs (not b) n))) (turns c b) ∙ reached n (not b) c)
      ∙ halves n b
