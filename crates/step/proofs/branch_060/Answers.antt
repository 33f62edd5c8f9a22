-- `branch_060`: the cache is asked and updated, or neither; the window is shut.
use mathlib.Core.Path.{◌≡◌, sym, ap, ap₂, ◌∙◌}
use mathlib.Core.Bool.{Bool, true, false, not}
use Rattle.class_word.specs.Word.{has, BRANCH, DBCC}
use Rattle.branch_cache.specs.declared.BranchCache060.{BranchCache060}
use Rattle.branch_cache.specs.Cache.{cache_update_of}
use Rattle.window.specs.declared.dispatch.Instruction.{Instruction}
use Rattle.window.specs.declared.dispatch.Controls.{Controls}
use Rattle.window.specs.declared.Window.{Window}
use Rattle.window.specs.Windows.{shut}
use Rattle.cost.specs.declared.branch.Answer.{Answer}
use Rattle.cost.specs.declared.branch.BranchCost.{BranchCost}
use Rattle.cost.specs.Branch.{taken_of, branch_of}
use Rattle.state.specs.declared.Retirement.{Retirement}
use Rattle.state.specs.declared.Oep060Timing.{Oep060Timing}
use Rattle.state.specs.declared.Stepped.{Stepped}
use Rattle.state.specs.Events.{consults, answer_of, cache_after}
use Rattle.state.specs.CrateCache.{crate_cache}
use Rattle.state.specs.Timing.{asked, stepped_by}
use Rattle.state.proofs.Stepping.{left, stepped_branch}
use borrow.Author.Rules.{rules}
use Rattle.step.proofs.branch_060.Goals as goal
use Rattle.step.proofs.branch_060.Goals.{then-consulted, else-consulted}

module _ (c : BranchCache060) (i : Instruction) (k : Controls) where
  updated : consults i k ≡ true → {taken : Bool} → taken ≡ taken_of i k → {next : BranchCache060} → next ≡ cache_update_of c k.ppc taken (not k.supervisor)
      → next ≡ cache_after crate_cache c i k
  unfolding cache_after
  updated e t u = simp (e, u, t)

  kept : consults i k ≡ false → c ≡ cache_after crate_cache c i k
  unfolding cache_after
  kept e = simp e

-- a next state with its cost and answer
abbrev of : Oep060Timing → BranchCost → Stepped
of t n = record { timing = t; cost = n.cost; answer = n.answer }

retired : (t : Oep060Timing) (i : Instruction) (r : Retirement) → has i.word.0 BRANCH ≡ true
    → {a : Answer} → a ≡ answer_of crate_cache t.cache i r.controls → {c : BranchCache060} → c ≡ cache_after crate_cache t.cache i r.controls
    → {w : Window} → w ≡ shut → {taken : Bool} → taken ≡ taken_of i r.controls → {d : Bool} → d ≡ has i.word.0 DBCC
    → {n : BranchCost} → n ≡ branch_of d taken t.window.opened a → left c w n.cost n.answer ≡ stepped_by t i r
retired t i r b {a} e {c} h {w} q {taken} s {d} f {n} p =
    ap (λ (v : Window). left c v n.cost n.answer) q
    ∙ stepped_branch t i r b (ap₂ asked e h) (p ∙ ap₂ (λ (x y : Bool). branch_of x y t.window.opened a) f s)

pub returns : goal.returns
returns c =
    let n = c.branch_cost_060-charged.result in
    elim c.if-consulted.branch [
      | then-consulted w ↦ ap (λ (t : Oep060Timing). of t n) w.timing-is
          ∙ retired c.args.timing c.args.i c.args.r c.requires c.answered-predicted.ensures (updated c.args.timing.cache c.args.i c.args.r.controls (sym c.consulted.ensures ∙ w.if-consulted.true) c.taken-taken.ensures (search rules))
          c.shut-timing.ensures c.taken-taken.ensures c.has.ensures c.branch_cost_060-charged.ensures
      | else-consulted w ↦ ap (λ (t : Oep060Timing). of t n) w.timing-is
          ∙ retired c.args.timing c.args.i c.args.r c.requires c.answered-predicted.ensures (kept c.args.timing.cache c.args.i c.args.r.controls (sym c.consulted.ensures ∙ w.if-consulted.false))
          c.shut-timing.ensures c.taken-taken.ensures c.has.ensures c.branch_cost_060-charged.ensures
    ]
