-- Document 02, R-3, "A table the proofreader can read": "a constant table of 1,024 numbers, one for each value of the
-- opcode's upper ten bits, naming the rule that the low six bits finish".
--
-- An opcode row is the 64 opcodes that have the same upper ten bits, and a rule is a way from the low six bits, the
-- mode and reg of an operand, to a class word. Which opcode row has which rule is not written down here: it is the rule
-- that gives its opcodes the class words of the classifier (Classify). No two rules are alike, so there is only one.
--
--   Rule                   ==  a name, one word; a sentence for the proofreader; and what the low six bits give, by
--                              tests tried in order (Rows of the crate bits)
--   rule name says gives   ==  the three together
--   to_memory, to_indexed  ==  the flags of MOVE's destination where it is memory, and where that is indexed
--   bit_entry a            ==  class 1, 1 clock, DEFINES_CCR and the operand's flags
--   move_many              ==  MOVEM: class 2, 2 clocks, VARIABLE, memory
--   counted_branch         ==  DBcc: class 1, 3 clocks, BRANCH, DBCC, USES_CCR_LATE
--   conditional a          ==  Scc: class 0, 1 clock, USES_CCR_LATE and the operand's flags
--   decimal                ==  SBCD, ABCD and PACK, and DIVU, DIVS, MULL and DIVL: class 1, 2 clocks, DEFINES_CCR,
--                              VARIABLE
--   extended               ==  ADDX, SUBX, ROXL and ROXR: class 1, 1 clock, DEFINES_CCR, USES_CCR_LATE
--   exchanged              ==  EXG: class 1, 1 clock
--   rule_count             ==  how many rules there are: 29
--   rules n                ==  the rule of number n, counted from 0; the last stands for all higher numbers too
--   name_of n, sentence_of n
--                          ==  its name and its sentence
--   finish_of n six        ==  the class word that the low six bits finish by rule n
--   row_of op, six_of op   ==  the opcode's upper ten bits, and its low six
--   finishes n row         ==  rule n gives each of the opcode row's 64 opcodes its class word
--   rule_of row            ==  the number of the opcode row's rule: the first that finishes it, or 29 where none does
use Rattle.std.specs.Prelude.{ℕ, ◌+◌, ◌*◌, ◌/◌, ◌%◌, Bool, true, false, eqb}
use Prim.Native.String.{String}
use Rattle.bits.specs.Below.{every_below, first_below}
use Rattle.bits.specs.Pattern.{matches}
use Rattle.bits.specs.Instructions.{data_register, address_register, any_register, immediate, rox}
use Rattle.bits.specs.Rows.{Rows, otherwise, ◌⇒◌⨾◌, first}
use Rattle.class_word.specs.declared.OepClass.TheVariants.{PoepSoep, PoepOnly, PoepUntilLast}
use Rattle.class_word.specs.Word.{BRANCH, DBCC, VARIABLE, DEFINES_CCR, USES_CCR_LATE}
use Rattle.classifier.specs.Entry.{
  Access,
  access,
  no_access,
  memory_only,
  together,
  addressed,
  read,
  written,
  modified,
  Entry,
  entry,
  entry_word,
  plain,
  alu,
  serial,
  unclassified,
}
use Rattle.classifier.specs.Classify.{classify_of}

pub record Rule : Type 0 where
  pub name : String
  pub sentence : String
  pub finish : ℕ → Rows Entry

abbrev pub rule : String → String → (ℕ → Rows Entry) → Rule
rule name says gives = record { name = name; sentence = says; finish = gives }

abbrev pub to_memory : Access
to_memory = access false false true

abbrev pub to_indexed : Access
to_indexed = access true false true

abbrev pub bit_entry : Access → Entry
bit_entry a = entry PoepOnly 1 DEFINES_CCR a

abbrev pub move_many : Entry
move_many = entry PoepUntilLast 2 VARIABLE memory_only

abbrev pub counted_branch : Entry
counted_branch = plain PoepOnly 3 (BRANCH + DBCC + USES_CCR_LATE)

abbrev pub conditional : Access → Entry
conditional a = entry PoepSoep 1 USES_CCR_LATE a

abbrev pub decimal : Entry
decimal = plain PoepOnly 2 (DEFINES_CCR + VARIABLE)

abbrev pub extended : Entry
extended = plain PoepOnly 1 (DEFINES_CCR + USES_CCR_LATE)

abbrev pub exchanged : Entry
exchanged = plain PoepOnly 1 0

abbrev pub rule_count : ℕ
rule_count = 29

unfoldable pub rules : ℕ → Rows Rule
rules n =
    eqb n 0 ⇒ rule "immediate-alu" "ALU, reads and writes its operand; at #immediate it runs alone"
    (λ six. matches immediate six ⇒ serial ⨾ otherwise (alu (modified six))) ⨾
    eqb n 1 ⇒ rule "unclassified" "not classified; runs alone, for a quarter of its raw count"
    (λ six. otherwise unclassified) ⨾
    eqb n 2 ⇒ rule "bit-test" "reads its operand, sets the CCR; runs alone"
    (λ six. otherwise (bit_entry (read six))) ⨾
    eqb n 3 ⇒ rule "bit-change" "reads and writes its operand, sets the CCR; runs alone"
    (λ six. otherwise (bit_entry (modified six))) ⨾
    eqb n 4 ⇒ rule "immediate-compare" "ALU, reads its operand; at #immediate it runs alone"
    (λ six. matches immediate six ⇒ serial ⨾ otherwise (alu (read six))) ⨾
    eqb n 5 ⇒ rule "alu-read" "ALU, reads its operand"
    (λ six. otherwise (alu (read six))) ⨾
    eqb n 6 ⇒ rule "move-to-memory" "MOVE, ALU, reads its operand and writes memory"
    (λ six. otherwise (alu (together (read six) to_memory))) ⨾
    eqb n 7 ⇒ rule "move-to-indexed" "MOVE, ALU, reads its operand and writes memory at an index"
    (λ six. otherwise (alu (together (read six) to_indexed))) ⨾
    eqb n 8 ⇒ rule "alu-modify" "ALU, reads and writes its operand"
    (λ six. otherwise (alu (modified six))) ⨾
    eqb n 9 ⇒ rule "alone" "runs alone, for a quarter of its raw count"
    (λ six. otherwise serial) ⨾
    eqb n 10 ⇒ rule "chk" "CHK; runs alone, for a quarter of its raw count"
    (λ six. otherwise (plain PoepOnly 2 VARIABLE)) ⨾
    eqb n 11 ⇒ rule "lea" "LEA, takes its operand's address: no memory, and the CCR stays"
    (λ six. otherwise (entry PoepSoep 1 0 (addressed six))) ⨾
    eqb n 12 ⇒ rule "swap" "at Dn SWAP, ALU; else runs alone, for a quarter of its raw count"
    (λ six. matches data_register six ⇒ alu no_access ⨾ otherwise serial) ⨾
    eqb n 13 ⇒ rule "ext-or-movem" "at Dn EXT, ALU; else MOVEM, reads and writes memory, for a quarter of its raw count"
    (λ six. matches data_register six ⇒ alu no_access ⨾ otherwise move_many) ⨾
    eqb n 14 ⇒ rule "tas" "TAS, reads and writes memory whatever its operand, sets the CCR; runs alone, two clocks"
    (λ six. otherwise (entry PoepOnly 2 DEFINES_CCR memory_only)) ⨾
    eqb n 15 ⇒ rule "divide" "DIVU, DIVS, MULL and DIVL; sets the CCR, runs alone, for a quarter of its raw count"
    (λ six. otherwise decimal) ⨾
    eqb n 16 ⇒ rule "movem" "at Dn runs alone; else MOVEM, reads and writes memory; for a quarter of its raw count"
    (λ six. matches data_register six ⇒ serial ⨾ otherwise move_many) ⨾
    eqb n 17 ⇒ rule "scc-or-dbcc" "at An DBcc, a branch; else Scc, writes its operand; both use the CCR late"
    (λ six. matches address_register six ⇒ counted_branch ⨾ otherwise (conditional (written six))) ⨾
    eqb n 18 ⇒ rule "bra" "BRA, a branch that does not use the CCR"
    (λ six. otherwise (plain PoepOnly 7 BRANCH)) ⨾
    eqb n 19 ⇒ rule "bcc-or-bsr" "Bcc and BSR, branches that use the CCR late"
    (λ six. otherwise (plain PoepOnly 7 (BRANCH + USES_CCR_LATE))) ⨾
    eqb n 20 ⇒ rule "moveq" "MOVEQ, ALU; its low six bits are data, no operand"
    (λ six. otherwise (alu no_access)) ⨾
    eqb n 21 ⇒ rule "decimal" "at Dn and An SBCD, ABCD or PACK, as divide; else as alu-modify"
    (λ six. matches any_register six ⇒ decimal ⨾ otherwise (alu (modified six))) ⨾
    eqb n 22 ⇒ rule "extended" "at Dn and An ADDX or SUBX, sets the CCR and uses it late, alone; else as alu-modify"
    (λ six. matches any_register six ⇒ extended ⨾ otherwise (alu (modified six))) ⨾
    eqb n 23 ⇒ rule "extended-read" "at Dn and An taken as ADDX or SUBX, as extended; else as alu-read"
    (λ six. matches any_register six ⇒ extended ⨾ otherwise (alu (read six))) ⨾
    eqb n 24 ⇒ rule "multiply" "MULU and MULS; sets the CCR, runs alone, two clocks"
    (λ six. otherwise (plain PoepOnly 2 DEFINES_CCR)) ⨾
    eqb n 25 ⇒ rule "exchange" "at Dn and An EXG, runs alone, and the CCR stays; else as alu-modify"
    (λ six. matches any_register six ⇒ exchanged ⨾ otherwise (alu (modified six))) ⨾
    eqb n 26 ⇒ rule "exchange-both" "at An EXG, runs alone, and the CCR stays; else as alu-modify"
    (λ six. matches address_register six ⇒ exchanged ⨾ otherwise (alu (modified six))) ⨾
    eqb n 27 ⇒ rule "shift" "ALU on registers; ROXL and ROXR, bits 4 and 3 of 10, set the CCR, use it late, run alone"
    (λ six. matches rox six ⇒ extended ⨾ otherwise (alu no_access)) ⨾
    otherwise (rule "memory-shift" "ALU, reads and writes memory whatever its operand"
    (λ six. otherwise (alu memory_only)))

abbrev pub name_of : ℕ → String
name_of n = (first (rules n)).name

abbrev pub sentence_of : ℕ → String
sentence_of n = (first (rules n)).sentence

unfoldable pub finish_of : ℕ → ℕ → ℕ
finish_of n six = entry_word (first ((first (rules n)).finish six))

abbrev pub row_of : ℕ → ℕ
row_of op = op / 64

abbrev pub six_of : ℕ → ℕ
six_of op = op % 64

unfoldable pub finishes : ℕ → ℕ → Bool
finishes n row = every_below 64 (λ six. eqb (finish_of n six) (classify_of (64 * row + six)))

unfoldable pub rule_of : ℕ → ℕ
rule_of row = first_below rule_count (λ n. finishes n row)
