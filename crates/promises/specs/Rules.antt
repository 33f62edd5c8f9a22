-- Document 02, R-3: the rules by which the proofreader's table and page go, and the classifier that they must give.
--
--   mode_line_of six  ==  which of the page's operand modes the low six bits are: the mode, and in mode 7 the register,
--                         5 to 7 as one
--   EveryRule         ==  the facts, each for every rule, row and opcode; the page has `finish_of n (six_at m)` at rule
--                         n and mode m (Lines of rule_text)
use Rattle.std.specs.Prelude.{ℕ, ◌+◌, ◌<◌, ◌≡◌, cond, ltb}
use Rattle.bits.specs.Fields.{mode_of, reg_of}
use Rattle.classifier.specs.Classify.{classify_of}
use Rattle.classifier.specs.Rules.{rule_count, finish_of, row_of, six_of, rule_of}
use Rattle.rule_text.specs.Names.{six_at}

abbrev pub mode_line_of : ℕ → ℕ
mode_line_of six = cond (ltb (mode_of six) 7) (mode_of six) (cond (ltb (reg_of six) 5) (7 + reg_of six) 12)

pub record EveryRule : Type 0 where
  -- the thirteen modes say all that a rule gives, whatever the register
  pub modes_say_all : (n six : ℕ) → n < rule_count → six < 64
      → finish_of n six ≡ finish_of n (six_at (mode_line_of six))
  -- no two rules are alike
  pub rules_differ : (q r : ℕ) → q < r → r < rule_count → ((six : ℕ) → six < 64 → finish_of q six ≡ finish_of r six) → ⊥
  -- a row that has a rule has each opcode's class word from it; `rule_of` promises one for every opcode
  pub rule_gives : (op : ℕ) → rule_of (row_of op) < rule_count
      → finish_of (rule_of (row_of op)) (six_of op) ≡ classify_of op
