-- The facts of every rule, from the laws of the crate classifier; and what `rule_of` may answer, as the checker reads its promise, has the opcode's class word on the page.
-- Assumes nothing.
use Prim.Native.Nat.{ℕ, ◌<◌}
use mathlib.Core.Path.{◌≡◌, refl, sym, ap, ◌∙◌}
use mathlib.Core.Bool.{true}
use native.Mathlib.Omega.{arith}
use contract.Lifetimes
use lib.Dec.{eqb}
use borrow.Author.Tests.{eqb-true}
use Rattle.bits.specs.Below.{every_below}
use Rattle.bits.specs.Pattern.{matches}
use Rattle.bits.proofs.Below.{each_below}
use Rattle.classifier.specs.Entry.{ea}
use Rattle.classifier.specs.Classify.{classify_of}
use Rattle.classifier.specs.Rules.{rule_count, rules, finish_of, six_of}
use Rattle.classifier.proofs.Finishing.{rules_differ_lem, rule_finishes}
use Rattle.classifier.proofs.rule_of.Reads as reads
use Rattle.rule_text.specs.Names.{six_at}
use Rattle.promises.specs.Rules.{mode_line_of, EveryRule}

tested : every_below rule_count (λ n. every_below 64 (λ six. eqb (finish_of n six) (finish_of n (six_at (mode_line_of six))))) ≡ true
unfolding finish_of rules matches ea
tested = refl

modes_say_all_lem : (n six : ℕ) → n < rule_count → six < 64 → finish_of n six ≡ finish_of n (six_at (mode_line_of six))
modes_say_all_lem n six h k =
    eqb-true _ _
    (each_below 64 (λ six. eqb (finish_of n six) (finish_of n (six_at (mode_line_of six))))
    (each_below rule_count (λ n. every_below 64 (λ six. eqb (finish_of n six) (finish_of n (six_at (mode_line_of six))))) tested n h) six k)

pub every_rule : EveryRule
every_rule = record { modes_say_all = modes_say_all_lem; rules_differ = rules_differ_lem; rule_gives = rule_finishes }

-- the page's word for the opcode's rule and operand mode is its class word
module _ (κs : Lifetimes.Lfts 0) (a : _) (n : _) (x : _) (p : reads.Post κs a n x) where
  pub page_says : finish_of n (six_at (mode_line_of (six_of a.0))) ≡ classify_of a.0
  page_says =
      let op = a.0 in
      sym (modes_say_all_lem n (six_of op) p.1 (omega arith)) ∙ ap (λ (m : ℕ). finish_of m (six_of op)) p.0 ∙ rule_finishes op (rw p.0 at p.1)
