-- How long the texts of the page are: at most 40 characters for a row, and 2,000 for a rule.
-- Assumes nothing.
use Prim.Native.Nat.{ℕ, ◌≤◌, ◌<◌}
use mathlib.Core.Path.{◌≡◌, refl, ap}
use mathlib.Core.Bool.{Bool, true, false, cond}
use mathlib.Core.List.{List, [], ◌++◌}
use native.Mathlib.Omega.{arith}
use lib.Dec.{leb, ltb}
use lib.ListN.{length, length-append}
use borrow.Author.Tests.{leb-true}
use Rattle.bits.specs.Below.{every_below}
use Rattle.bits.proofs.Below.{each_below}
use Rattle.class_word.specs.Word.{class_of, clocks_of, has, BRANCH, DBCC, VARIABLE, UNCLASSIFIED, DEFINES_CCR, USES_CCR_LATE, EA_INDEXED, READS_MEM, WRITES_MEM}
use Rattle.classifier.specs.Rules.{rule_count, rules, name_of, sentence_of, finish_of, rule_of}
use Rattle.classifier.proofs.Finishing.{rule_most}
use Rattle.text.specs.Written.{text_of}
use Rattle.text.specs.Decimal.{digits_in, decimal_of}
use Rattle.text.proofs.Digits.{decimal_length}
use Rattle.rule_text.specs.Each.{each_from}
use Rattle.rule_text.specs.Names.{mode_count, mode_names, mode_name, six_at, none_text, flag_text, flags_text}
use Rattle.rule_text.specs.Lines.{row_count, begins, ends, run_begins, run_ends, row_text, heading_line, word_text, mode_line, closing_line}
use Rattle.rule_text.specs.Page.{runs_text, rule_text, page_text}
use Rattle.rule_text.proofs.Each.{each_most}

cond_most : (b : Bool) (l : List ℕ) → length (cond b l []) ≤ length l
cond_most true l = omega arith
cond_most false l = omega arith

-- a test computed at every number gives the bound at each
short : (f : ℕ → List ℕ) (most n : ℕ) → every_below n (λ k. leb (length (f k)) most) ≡ true → (k : ℕ) → k < n → length (f k) ≤ most
short f most n t k h = leb-true (length (f k)) most (each_below n (λ k. leb (length (f k)) most) t k h)

-- ---- the words
name_most : (n : ℕ) → n < 30 → length (text_of (name_of n)) ≤ 17
unfolding rules
name_most n h = short (λ n. text_of (name_of n)) 17 30 refl n h

sentence_most : (n : ℕ) → n < 30 → length (text_of (sentence_of n)) ≤ 90
unfolding rules
sentence_most n h = short (λ n. text_of (sentence_of n)) 90 30 refl n h

mode_name_most : (m : ℕ) → m < mode_count → length (text_of (mode_name m)) ≤ 12
unfolding mode_names
mode_name_most m h = short (λ m. text_of (mode_name m)) 12 mode_count refl m h

-- ---- part one
run_most : (row : ℕ) → length (run_ends row) ≤ 26
run_most row =
    let n = rule_most row in
    simp length-append
    (omega (
      arith,
      name_most (rule_of row) (omega arith),
      decimal_length 2 (rule_of row) (omega arith) (omega arith),
    ))

row_most : (row : ℕ) → length (row_text row) ≤ 40
row_most row =
    omega (
      arith,
      length-append (cond (begins row) (run_begins row) []) (cond (ends row) (run_ends row) []),
      cond_most (begins row) (run_begins row),
      cond_most (ends row) (run_ends row),
      run_most row,
    )

-- ---- part two
heading_most : (n : ℕ) → n < rule_count → length (heading_line n) ≤ 114
unfolding heading_line
heading_most n h =
    simp length-append
    (omega (
      arith,
      name_most n (omega arith),
      sentence_most n (omega arith),
      decimal_length 2 n (omega arith) (omega arith),
    ))

flags_most : (w : ℕ) → length (flags_text w) ≤ 97
unfolding flags_text flag_text none_text
flags_most w =
    simp length-append
    (omega (
      arith,
      cond_most (ltb w BRANCH) (text_of " none"),
      cond_most (has w BRANCH) (text_of " BRANCH"),
      cond_most (has w DBCC) (text_of " DBCC"),
      cond_most (has w VARIABLE) (text_of " VARIABLE"),
      cond_most (has w DEFINES_CCR) (text_of " DEFINES_CCR"),
      cond_most (has w USES_CCR_LATE) (text_of " USES_CCR_LATE"),
      cond_most (has w EA_INDEXED) (text_of " EA_INDEXED"),
      cond_most (has w UNCLASSIFIED) (text_of " UNCLASSIFIED"),
      cond_most (has w READS_MEM) (text_of " READS_MEM"),
      cond_most (has w WRITES_MEM) (text_of " WRITES_MEM"),
    ))

word_most : (w : ℕ) → length (word_text w) ≤ 119
unfolding word_text
word_most w =
    simp length-append
    (omega (
      arith,
      decimal_length 1 (class_of w) (omega arith) (omega arith),
      decimal_length 2 (clocks_of w) (omega arith) (omega arith),
      flags_most w,
    ))

mode_most : (n m : ℕ) → m < mode_count → length (mode_line n m) ≤ 134
mode_most n m h =
    simp length-append
    (omega (
      arith,
      mode_name_most m h,
      word_most (finish_of n (six_at m)),
    ))

rule_text_most : (n : ℕ) → n < rule_count → length (rule_text n) ≤ 2000
rule_text_most n h =
    omega (
      arith,
      length-append (heading_line n) (each_from 0 mode_count (mode_line n)),
      heading_most n h,
      each_most (mode_line n) 134 0 mode_count (λ m l. mode_most n m (omega arith)),
    )

-- ---- the page
pub closing_is : closing_line ≡ text_of "\n1024 rows, 29 rules\n"
unfolding closing_line decimal_of digits_in
closing_is = refl

pub runs_most : length runs_text ≤ 40960
runs_most = omega (arith, each_most row_text 40 0 row_count (λ row l. row_most row))

pub rules_most : length (each_from 0 rule_count rule_text) ≤ 58000
rules_most = omega (arith, each_most rule_text 2000 0 rule_count (λ n l. rule_text_most n (omega arith)))

pub page_most : length page_text ≤ 100000
page_most =
    omega (
      arith,
      length-append (runs_text ++ each_from 0 rule_count rule_text) closing_line,
      length-append runs_text (each_from 0 rule_count rule_text),
      runs_most,
      rules_most,
      ap length closing_is,
    )
