-- Document 01, "Facts to reproduce, surprising ones included": what holds of every opcode's class word.
--
--   Fits w       ==  the word keeps to the layout: 16 bits, and class, clocks and flags make it up
--   EveryOpcode  ==  the facts, each for every opcode
use Rattle.std.specs.Prelude.{ℕ, ◌≤◌, ◌<◌, ◌≡◌, true, false, ◌&&◌}
use Rattle.class_word.specs.Word.{word_of, class_of, clocks_of, flags_of, has, BRANCH, VARIABLE, EA_INDEXED}
use Rattle.classifier.specs.Classify.{classify_of}

pub record Fits (w : ℕ) : Type 0 where
  pub within : w < 65536
  pub made_up : w ≡ word_of (class_of w) (clocks_of w) (flags_of w)

pub record EveryOpcode : Type 0 where
  -- "Class 0 entries all have 1 clock."
  pub class0_has_one_clock : (op : ℕ) → class_of (classify_of op) ≡ 0 → clocks_of (classify_of op) ≡ 1
  -- every entry has at least 1
  pub at_least_one_clock : (op : ℕ) → 1 ≤ clocks_of (classify_of op)
  -- "Class 3 is never produced."
  pub class3_never : (op : ℕ) → class_of (classify_of op) ≡ 3 → ⊥
  -- "No entry is both VARIABLE and EA_INDEXED."
  pub never_variable_and_indexed : (op : ℕ) → (has (classify_of op) VARIABLE && has (classify_of op) EA_INDEXED) ≡ false
  -- no BRANCH entry is in class 0
  pub branch_not_in_class0 : (op : ℕ) → has (classify_of op) BRANCH ≡ true → class_of (classify_of op) ≡ 0 → ⊥
  -- every word fits the layout
  pub fits : (op : ℕ) → Fits (classify_of op)
