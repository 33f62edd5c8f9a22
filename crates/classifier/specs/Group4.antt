-- Document 01, part 2, "Classifying an opcode": group 4. The Rust: classify_060_opcode.
--
-- The group is a list of rows, tried in order: a pattern of the opcode's lower bits, named for its instructions
-- (Instructions of the crate bits), and what they give (Entry). A comment in quotation marks is
-- document 01's sentence on a row that surprises.
--
--   group4  ==  the rows of group 4   "The Rust's test order within a group counts"
use Rattle.std.specs.Prelude.{ℕ, ◌+◌, not, ◌&&◌}
use Rattle.bits.specs.Pattern.{matches}
use Rattle.bits.specs.Instructions.{
  data_register,
  size01,
  move_from_sr,
  move_from_ccr,
  move_to_ccr,
  move_to_sr,
  movem,
  tas,
  mull_divl,
  swap,
  nbcd_ext,
  clr,
  negx,
  neg,
  not',
  lea,
  chk,
  tst,
}
use Rattle.bits.specs.Rows.{Rows, otherwise, ◌⇒◌⨾◌}
use Rattle.class_word.specs.declared.OepClass.TheVariants.{PoepSoep, PoepOnly, PoepUntilLast}
use Rattle.class_word.specs.Word.{VARIABLE, DEFINES_CCR}
use Rattle.classifier.specs.Entry.{
  Entry,
  entry,
  plain,
  alu,
  serial,
  no_access,
  memory_only,
  addressed,
  read,
  modified,
}

-- "In group 4 the test "bits 9 to 11 are 100 and bits 6 and 7 are not 01" comes before LEA, so LEA into A4 reads and
-- writes memory and defines the CCR, and CHK on D4 is class 0": it is the row of NBCD and EXT. The last row is JSR,
-- JMP, RTS, RTE, RTR, LINK, UNLK, PEA, TRAP, STOP, MOVEC, MOVE USP and what else is left
unfoldable pub group4 : ℕ → Rows Entry
group4 op =
    matches move_from_sr op ⇒ serial ⨾
    matches move_from_ccr op ⇒ serial ⨾
    matches move_to_ccr op ⇒ serial ⨾
    matches move_to_sr op ⇒ serial ⨾
    matches movem op && not (matches data_register op) ⇒ entry PoepUntilLast 2 VARIABLE memory_only ⨾
    matches tas op ⇒ entry PoepOnly 2 DEFINES_CCR memory_only ⨾
    matches mull_divl op ⇒ plain PoepOnly 2 (DEFINES_CCR + VARIABLE) ⨾
    matches swap op ⇒ alu no_access ⨾
    matches nbcd_ext op && not (matches size01 op) ⇒ alu (modified op) ⨾
    matches clr op ⇒ alu (modified op) ⨾
    matches negx op ⇒ alu (modified op) ⨾
    matches neg op ⇒ alu (modified op) ⨾
    matches not' op ⇒ alu (modified op) ⨾
    matches lea op ⇒ entry PoepSoep 1 0 (addressed op) ⨾
    matches chk op ⇒ plain PoepOnly 2 VARIABLE ⨾
    matches tst op ⇒ alu (read op) ⨾
    otherwise serial
