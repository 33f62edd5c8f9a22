-- How long the lines are: at most 115 characters for each retirement, and 34 for each reason.
-- Assumes nothing.
use Prim.Native.Nat.{ℕ, ◌+◌, ◌-◌, ◌%◌, ◌^◌, ◌≤◌, ◌<◌}
use mathlib.Core.Path.{◌≡◌, refl}
use mathlib.Core.Bool.{Bool, true, false, cond}
use mathlib.Core.List.{List, [], ◌++◌}
use native.Mathlib.Omega.{arith}
use lib.Dec.{eqb, ltb, leb}
use lib.ListN.{length, length-append, get_or}
use borrow.Author.Tests.{leb-true, ltb-true, ltb-false}
use Rattle.bits.specs.Below.{every_below}
use Rattle.bits.specs.Words.{bit}
use Rattle.bits.proofs.Below.{each_below}
use Rattle.text.specs.Hex.{hex_of, hex_long_of}
use Rattle.text.specs.Written.{text_of}
use Rattle.text.proofs.Digits.{decimal_length}
use Rattle.rule_text.proofs.Each.{each_most}
use Rattle.records.proofs.Choices.{by_test}
use Rattle.window.specs.declared.Window.{Window}
use Rattle.cost.specs.declared.branch.Answer.{Answer}
use Rattle.cost.specs.declared.branch.Answer.TheVariants.{NotConsulted, Miss, PredictedNotTaken, PredictedTaken}
use Rattle.reasons.specs.declared.reason.Reason.{Reason}
use Rattle.reasons.specs.declared.reason.Reason.TheVariants.{
  Paired,
  WindowShut,
  EssOff,
  NotCached,
  NotSimple,
  Register,
  Ccr,
  Memory,
  Refill,
  Folded,
  Alone,
  NotTaken,
  Mispredicted,
  Static,
}
use Rattle.reasons.specs.declared.explain.Explained.{Explained}
use Rattle.explaining.specs.Words.{predicted_word, dash, register_name, comma, register_text, registers_of, in_the_way}
use Rattle.explaining.specs.WhyLines.{numbers_text, words_text, head_text, more_text, why_line, count_line}
use Rattle.reasons.specs.Reasons.{reason_word, reasons}
use Rattle.explaining.specs.Inner.{count_text}

-- ---- the reasons
abbrev reason_at : ℕ → List ℕ
reason_at n = text_of (reason_word (get_or reasons n Static))

words_tested : every_below 14 (λ n. leb (length (reason_at n)) 12) ≡ true
words_tested = refl

pub count_most : (ns : List ℕ) (n : ℕ) → n < 14 → get_or ns n 0 < 2 ^ 64 → length (count_text ns n) ≤ 34
unfolding count_text count_line
count_most ns n h l =
    let w = leb-true (length (reason_at n)) 12 (each_below 14 (λ n. leb (length (reason_at n)) 12) words_tested n h) in
    simp length-append (omega (arith, w, decimal_length 20 (get_or ns n 0) (omega arith) (omega arith)))

-- ---- a retirement
numbers_most : (i op n : ℕ) → i < 10000 → n ≤ 536870912 → length (numbers_text i op n) ≤ 19
unfolding numbers_text
numbers_most i op n h l = simp length-append (omega (arith, decimal_length 4 i (omega arith) (omega arith), decimal_length 9 n (omega arith) (omega arith)))

predicted_most : (a : Answer) → length (text_of (predicted_word a)) ≤ 19
predicted_most NotConsulted = omega arith
predicted_most Miss = omega arith
predicted_most PredictedNotTaken = omega arith
predicted_most PredictedTaken = omega arith

head_most : (w : Window) → length (head_text w) ≤ 14
unfolding head_text
head_most w = go w.opened
  where
    go : (b : Bool) → length (text_of " " ++ cond b (hex_of w.op) dash ++ text_of " " ++ cond b (hex_long_of w.address) dash) ≤ 14
    go true = omega arith
    go false = omega arith

name_most : (n : ℕ) → n < 16 → length (register_name n) ≤ 2
unfolding register_name
name_most n h =
    by_test (λ (t : List ℕ). length t ≤ 2) (ltb n 8) _ _
    (λ b. let l = ltb-true n 8 b in omega (arith, decimal_length 1 n (omega arith) (omega arith)))
    (λ b. let l = ltb-false n 8 b in omega (arith, decimal_length 1 (n - 8) (omega arith) (omega arith)))

comma_most : (mask n : ℕ) → length (comma mask n) ≤ 1
unfolding comma
comma_most mask n = by_test (λ (t : List ℕ). length t ≤ 1) (eqb (mask % 2 ^ n) 0) [] (text_of ",") (λ _. omega arith) (λ _. omega arith)

register_most : (mask n : ℕ) → n < 16 → length (register_text mask n) ≤ 3
unfolding register_text
register_most mask n h =
    by_test (λ (t : List ℕ). length t ≤ 3) (bit n mask) _ _
    (λ _. omega (arith, length-append (comma mask n) (register_name n), comma_most mask n, name_most n h))
    (λ _. omega arith)

registers_most : (mask : ℕ) → length (registers_of mask) ≤ 48
registers_most mask = each_most (register_text mask) 3 0 16 (λ i h. register_most mask i (omega arith))

-- the longest word has no registers behind it
columns_most : (x : Reason) (a : Answer) (mask : ℕ) → length (words_text x a) + length (in_the_way x mask) ≤ 80
unfolding words_text
columns_most Paired a mask = omega (arith, predicted_most a)
columns_most WindowShut a mask = omega (arith, predicted_most a)
columns_most EssOff a mask = omega (arith, predicted_most a)
columns_most NotCached a mask = omega (arith, predicted_most a)
columns_most NotSimple a mask = omega (arith, predicted_most a)
columns_most Register a mask = omega (arith, predicted_most a, registers_most mask)
columns_most Ccr a mask = omega (arith, predicted_most a)
columns_most Memory a mask = omega (arith, predicted_most a)
columns_most Refill a mask = omega (arith, predicted_most a)
columns_most Folded a mask = omega (arith, predicted_most a)
columns_most Alone a mask = omega (arith, predicted_most a)
columns_most NotTaken a mask = omega (arith, predicted_most a)
columns_most Mispredicted a mask = omega (arith, predicted_most a)
columns_most Static a mask = omega (arith, predicted_most a)

more_most : (full : Bool) (x : Explained) → length (words_text x.reason x.answer) + length (more_text full x) ≤ 95
unfolding more_text
more_most true x =
    simp length-append (omega (arith, head_most x.window, columns_most x.reason x.answer x.registers))
more_most false x = omega (arith, columns_most x.reason x.answer x.registers)

pub line_most : (full : Bool) (i op : ℕ) (x : Explained) → i < 10000 → x.cost.0 ≤ 536870912 → length (why_line full i op x) ≤ 115
unfolding why_line
line_most full i op x h l = simp length-append (omega (arith, numbers_most i op x.cost.0 h l, more_most full x))
