-- Document 01, part 2, "Classifying an opcode": groups 0 to 7, but for group 4. The Rust: classify_060_opcode.
--
-- Each group is a list of rows, tried in order: a pattern of the opcode's lower bits, named for its instructions
-- (Instructions of the crate bits), and what they give (Entry). A comment in quotation marks is
-- document 01's sentence on a row that surprises.
--
--   bit_operation op  ==  what the bit operations of group 0 give
--   group0 .. group7  ==  the rows of a group         "The Rust's test order within a group counts"
--   move              ==  the rows of groups 1 to 3   "groups 1 to 3, and 9 with 13, share rules"
use Rattle.std.specs.Prelude.{ℕ, ◌+◌, true, false, not}
use Rattle.bits.specs.Pattern.{matches}
use Rattle.bits.specs.Instructions.{immediate, size11, bit_dynamic, bit_static, btst, cmp2, cas, cmpi, dbcc, bra}
use Rattle.bits.specs.Fields.{mode_of, reg_of, dst_mode_of, dst_reg_of}
use Rattle.bits.specs.Rows.{Rows, otherwise, ◌⇒◌⨾◌}
use Rattle.class_word.specs.declared.OepClass.TheVariants.{PoepSoep, PoepOnly}
use Rattle.class_word.specs.Word.{BRANCH, DBCC, DEFINES_CCR, USES_CCR_LATE}
use Rattle.classifier.specs.Entry.{
  Entry,
  entry,
  plain,
  alu,
  serial,
  unclassified,
  ea,
  together,
  no_access,
  read,
  written,
  modified,
}

-- BTST, BCHG, BCLR and BSET, and MOVEP: all but BTST write
abbrev pub bit_operation : ℕ → Entry
bit_operation op = entry PoepOnly 1 DEFINES_CCR (ea (mode_of op) (reg_of op) true (not (matches btst op)))

-- the last two rows are ORI, ANDI, SUBI, ADDI, EORI and CMPI, which writes nothing
-- "MOVES (0E00 to 0EBF) gets the immediate-operand rule, class 0 (class 1 at mode 7 reg 4), although the comment says
-- otherwise"
unfoldable pub group0 : ℕ → Rows Entry
group0 op =
    matches bit_dynamic op ⇒ bit_operation op ⨾
    matches bit_static op ⇒ bit_operation op ⨾
    matches cmp2 op ⇒ unclassified ⨾
    matches cas op ⇒ unclassified ⨾
    matches immediate op ⇒ serial ⨾
    matches cmpi op ⇒ alu (read op) ⨾
    otherwise (alu (modified op))

-- MOVE and MOVEA: the source is read, the destination written
unfoldable pub move : ℕ → Rows Entry
move op = otherwise (alu (together (read op) (ea (dst_mode_of op) (dst_reg_of op) false true)))

-- DBcc; Scc; ADDQ and SUBQ
unfoldable pub group5 : ℕ → Rows Entry
group5 op =
    matches dbcc op ⇒ plain PoepOnly 3 (BRANCH + DBCC + USES_CCR_LATE) ⨾
    matches size11 op ⇒ entry PoepSoep 1 USES_CCR_LATE (written op) ⨾
    otherwise (alu (modified op))

-- "BSR has USES_CCR_LATE; BRA has not": all but BRA have it
unfoldable pub group6 : ℕ → Rows Entry
group6 op =
    matches bra op ⇒ plain PoepOnly 7 BRANCH ⨾
    otherwise (plain PoepOnly 7 (BRANCH + USES_CCR_LATE))

-- MOVEQ
unfoldable pub group7 : ℕ → Rows Entry
group7 op = otherwise (alu no_access)
