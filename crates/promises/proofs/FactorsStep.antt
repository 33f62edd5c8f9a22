-- Equal factors give the same step: the cost, the cache's answer, the window and the cache's change are each made of the factors.
-- Assumes nothing.
use Prim.Native.Nat.{ℕ}
use mathlib.Core.Path.{◌≡◌, refl, sym, ap, ap₂, ◌∙◌}
use mathlib.Core.Bool.{Bool, true, false, cond}
use Rattle.std.specs.Prelude.{Option, Some, None}
use Rattle.class_word.specs.declared.Clocks.{Clocks}
use Rattle.class_word.specs.Word.{clocks}
use Rattle.branch_cache.specs.declared.BranchCache060.{BranchCache060}
use Rattle.branch_cache.specs.Cache.{slot_at}
use Rattle.window.specs.declared.Window.{Window}
use Rattle.window.specs.declared.dispatch.Instruction.{Instruction}
use Rattle.window.specs.Windows.{shut, unnamed}
use Rattle.cost.specs.Retiring.{point_of}
use Rattle.cost.specs.Cost.{as_head, heads_by, window_of}
use Rattle.profile.specs.declared.Profile.{Profile}
use Rattle.profile.specs.Profile.{profile_of}
use Rattle.state.specs.declared.Oep060Timing.{Oep060Timing}
use Rattle.state.specs.declared.Retirement.{Retirement}
use Rattle.state.specs.Timing.{stepped_by}
use Rattle.step.specs.Boards.{stepped_of}
use Rattle.image.specs.Image.{InRange}
use Rattle.promises.specs.Factors.{Factors, factors_of, coarse, holding, SameChange, kept, put, SameStep}
use Rattle.promises.proofs.FactorsAnswer.{answer_on, step_answer_lem}
use Rattle.promises.proofs.FactorsCost.{cost_from, window_from, cost_is, window_is}
use Rattle.promises.proofs.FactorsCache.{byte_from, changed, cache_is, held_same}

-- the step, made of factors

abbrev pub cost_on : Profile → Factors → Clocks
cost_on P f = clocks (cost_from (profile_of P f.op) f f.branch)

abbrev pub window_on : Profile → Factors → Window
window_on P f = window_from (profile_of P f.op) f f.branch

abbrev pub byte_on : Profile → Factors → Option ℕ
byte_on P f = byte_from (profile_of P f.op) f f.branch

module _ (P : Profile) (t : Oep060Timing) (r : Retirement) where
  pub step_cost_lem : (stepped_of P t r).cost ≡ cost_on P (coarse (factors_of P t r))
  unfolding stepped_by
  step_cost_lem = ap clocks (cost_is P t r)

  pub step_window : unnamed (stepped_of P t r).timing.window ≡ window_on P (coarse (factors_of P t r))
  unfolding stepped_by
  step_window = window_is P t r

  pub step_cache : (stepped_of P t r).timing.cache ≡ changed t.cache r.controls.ppc (byte_on P (coarse (factors_of P t r)))
  unfolding stepped_by
  step_cache = cache_is P t r

-- an open window has the retirement's opcode and ppc, a shut one zeros
abbrev named : Window → ℕ → ℕ → Window
named w op ppc =
    record {
      opened = w.opened;
      defs = w.defs;
      ccr = w.ccr;
      mem = w.mem;
      warm = w.warm;
      op = cond w.opened op 0;
      address = cond w.opened ppc 0;
    }

pub step_named : (P : Profile) (t : Oep060Timing) (r : Retirement)
    → (stepped_of P t r).timing.window ≡ named (unnamed (stepped_of P t r).timing.window) r.op r.controls.ppc
unfolding stepped_by window_of
step_named P t r = go (heads_by (point_of i r.controls) i r.controls t.window)
  where
    i : Instruction
    i = profile_of P r.op

    go : (h : Bool) → cond h (as_head r.op i r.controls) shut ≡ named (unnamed (cond h (as_head r.op i r.controls) shut)) r.op r.controls.ppc
    go true = refl
    go false = refl

-- two steps

module _ (P : Profile) (t t' : Oep060Timing) (r r' : Retirement) where
  pub change_by : (o : Option ℕ) → (stepped_of P t r).timing.cache ≡ changed t.cache r.controls.ppc o
      → (stepped_of P t' r').timing.cache ≡ changed t'.cache r'.controls.ppc o → SameChange P t t' r r'
  change_by None p q = kept p q
  change_by (Some byte) p q = put byte p q

  pub slots_by : SameChange P t t' r r' → r.controls.ppc ≡ r'.controls.ppc → InRange t → InRange t' → (n : ℕ)
      → slot_at t.cache n ≡ slot_at t'.cache n
      → slot_at (stepped_of P t r).timing.cache n ≡ slot_at (stepped_of P t' r').timing.cache n
  slots_by (kept p q) at ok ok' n e = ap (λ (c : BranchCache060). slot_at c n) p ∙ e ∙ sym (ap (λ (c : BranchCache060). slot_at c n) q)
  slots_by (put byte p q) at ok ok' n e =
      ap (λ (c : BranchCache060). slot_at c n) p
      ∙ held_same t.cache t'.cache ok.tags.0 ok.slots.0 ok'.tags.0 ok'.slots.0 r.controls.ppc n byte e
      ∙ ap (λ (pc : ℕ). slot_at (holding t'.cache pc byte) n) at
      ∙ sym (ap (λ (c : BranchCache060). slot_at c n) q)

  pub whole_by : r.op ≡ r'.op → unnamed (stepped_of P t r).timing.window ≡ unnamed (stepped_of P t' r').timing.window
      → r.controls.ppc ≡ r'.controls.ppc → (stepped_of P t r).timing.window ≡ (stepped_of P t' r').timing.window
  whole_by o w at =
      step_named P t r
      ∙ ap (λ (v : Window). named v r.op r.controls.ppc) w
      ∙ ap₂ (named (unnamed (stepped_of P t' r').timing.window)) o at
      ∙ sym (step_named P t' r')

  module _ (e : coarse (factors_of P t r) ≡ coarse (factors_of P t' r')) where
    same_change : SameChange P t t' r r'
    same_change =
        change_by (byte_on P (coarse (factors_of P t' r')))
        (step_cache P t r ∙ ap (λ (f : Factors). changed t.cache r.controls.ppc (byte_on P f)) e) (step_cache P t' r')

    same_window : unnamed (stepped_of P t r).timing.window ≡ unnamed (stepped_of P t' r').timing.window
    same_window = step_window P t r ∙ ap (window_on P) e ∙ sym (step_window P t' r')

    pub same_step : SameStep P t t' r r'
    same_step =
        record {
          cost = step_cost_lem P t r ∙ ap (cost_on P) e ∙ sym (step_cost_lem P t' r');
          answer = step_answer_lem P t r ∙ ap answer_on e ∙ sym (step_answer_lem P t' r');
          window = same_window;
          whole = whole_by (ap (λ (f : Factors). f.op) e) same_window;
          cache = same_change;
          slots = slots_by same_change;
        }
