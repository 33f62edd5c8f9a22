-- Document 01, part 2, "Classifying an opcode": groups 8 to 14. The Rust: classify_060_opcode.
--
-- Each group is a list of rows, tried in order: a pattern of the opcode's lower bits, named for its instructions
-- (Instructions of the crate bits), and what they give (Entry). A comment in quotation marks is
-- document 01's sentence on a row that surprises.
--
--   group8 .. group14  ==  the rows of a group           "The Rust's test order within a group counts"
--   add_sub            ==  the rows of groups 9 and 13   "groups 1 to 3, and 9 with 13, share rules"
use Rattle.std.specs.Prelude.{ℕ, ◌+◌}
use Rattle.bits.specs.Pattern.{matches}
use Rattle.bits.specs.Instructions.{
  size11,
  to_operand,
  sbcd_abcd,
  pack,
  addx_subx,
  exg_data,
  exg_address,
  exg_both,
  bit_field,
  rox,
}
use Rattle.bits.specs.Rows.{Rows, otherwise, ◌⇒◌⨾◌}
use Rattle.class_word.specs.declared.OepClass.TheVariants.{PoepOnly}
use Rattle.class_word.specs.Word.{VARIABLE, DEFINES_CCR, USES_CCR_LATE}
use Rattle.classifier.specs.Entry.{Entry, entry, plain, alu, unclassified, no_access, memory_only, read, modified}

-- DIVU and DIVS; SBCD; PACK; OR to its operand, and from it
unfoldable pub group8 : ℕ → Rows Entry
group8 op =
    matches size11 op ⇒ plain PoepOnly 2 (DEFINES_CCR + VARIABLE) ⨾
    matches sbcd_abcd op ⇒ plain PoepOnly 2 (DEFINES_CCR + VARIABLE) ⨾
    matches pack op ⇒ plain PoepOnly 2 (DEFINES_CCR + VARIABLE) ⨾
    matches to_operand op ⇒ alu (modified op) ⨾
    otherwise (alu (read op))

-- "bit 8 set with mode 0 or 1 is taken as ADDX/SUBX; this catches ADDA.L and SUBA.L from a register"
-- then ADDA and SUBA; ADD and SUB to their operand, and from it
unfoldable pub add_sub : ℕ → Rows Entry
add_sub op =
    matches addx_subx op ⇒ entry PoepOnly 1 (DEFINES_CCR + USES_CCR_LATE) (modified op) ⨾
    matches size11 op ⇒ alu (read op) ⨾
    matches to_operand op ⇒ alu (modified op) ⨾
    otherwise (alu (read op))

-- CMPA; EOR and CMPM; CMP
unfoldable pub group11 : ℕ → Rows Entry
group11 op =
    matches size11 op ⇒ alu (read op) ⨾
    matches to_operand op ⇒ alu (modified op) ⨾
    otherwise (alu (read op))

-- MULU and MULS; ABCD; EXG; AND to its operand, and from it
unfoldable pub group12 : ℕ → Rows Entry
group12 op =
    matches size11 op ⇒ plain PoepOnly 2 DEFINES_CCR ⨾
    matches sbcd_abcd op ⇒ plain PoepOnly 2 (DEFINES_CCR + VARIABLE) ⨾
    matches exg_data op ⇒ plain PoepOnly 1 0 ⨾
    matches exg_address op ⇒ plain PoepOnly 1 0 ⨾
    matches exg_both op ⇒ plain PoepOnly 1 0 ⨾
    matches to_operand op ⇒ alu (modified op) ⨾
    otherwise (alu (read op))

-- bit fields; memory shifts; ROXL and ROXR; shifts and rotates of registers
-- "Memory shifts never have EA_INDEXED"
unfoldable pub group14 : ℕ → Rows Entry
group14 op =
    matches bit_field op ⇒ unclassified ⨾
    matches size11 op ⇒ alu memory_only ⨾
    matches rox op ⇒ plain PoepOnly 1 (DEFINES_CCR + USES_CCR_LATE) ⨾
    otherwise (alu no_access)
