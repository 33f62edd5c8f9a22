-- Document 01, "Classifying an opcode": what an operand and an instruction give. The Rust: ea_flags, alu, unclassified.
--
--   is_memory mode reg   ==  "An operand is memory if mode is 2 or more, except mode 7 reg 4"
--   is_indexed mode reg  ==  "It is indexed if mode is 6, or mode 7 reg 3"
--   Access               ==  the three flags that operands give: EA_INDEXED, READS_MEM, WRITES_MEM
--   no_access            ==  none of them
--   memory_only          ==  reads and writes memory, whatever the operand; never indexed
--   ea mode reg r w      ==  the flags of an operand that the instruction reads (r) and writes (w): the Rust's ea_flags
--   together a b         ==  the flags of two operands
--   addressed op, read op, written op, modified op
--                        ==  the flags of the operand in the low six bits: neither read nor written, read, written,
--                            both
--   access_flags a       ==  the sum of the flags that are set
--   Entry                ==  class, clocks, the sum of the flags that stand fixed, and those that the operands give
--   entry_word e         ==  the class word of an entry
--   plain c k f          ==  an entry whose operands give no flag
--   alu a                ==  class 0, 1 clock, DEFINES_CCR and the operands' flags: the Rust's alu
--   serial               ==  class 1, 1 clock, VARIABLE
--   unclassified         ==  class 1, 1 clock, UNCLASSIFIED and VARIABLE: the Rust's unclassified
--   packed rows          ==  the struct of the code that holds the class word of the first row that holds
use Rattle.std.specs.Prelude.{ℕ, ◌+◌, ◌*◌, Bool, true, false, not, ◌&&◌, ◌||◌, eqb, leb}
use Rattle.bits.specs.Fields.{mode_of, reg_of}
use Rattle.bits.specs.Rows.{Rows, first}
use Rattle.bits.specs.Words.{num}
use Rattle.class_word.specs.declared.Info060.{Info060}
use Rattle.class_word.specs.declared.OepClass.{OepClass}
use Rattle.class_word.specs.declared.OepClass.TheVariants.{PoepSoep, PoepOnly}
use Rattle.class_word.specs.Word.{
  class_number,
  word_of,
  info,
  VARIABLE,
  UNCLASSIFIED,
  DEFINES_CCR,
  EA_INDEXED,
  READS_MEM,
  WRITES_MEM,
}

abbrev pub is_memory : ℕ → ℕ → Bool
is_memory mode reg = leb 2 mode && not (eqb mode 7 && eqb reg 4)

abbrev pub is_indexed : ℕ → ℕ → Bool
is_indexed mode reg = eqb mode 6 || (eqb mode 7 && eqb reg 3)

pub record Access : Type 0 where
  pub indexed : Bool
  pub reads : Bool
  pub writes : Bool

abbrev pub access : Bool → Bool → Bool → Access
access indexed reads writes = record { indexed = indexed; reads = reads; writes = writes }

abbrev pub no_access : Access
no_access = access false false false

abbrev pub memory_only : Access
memory_only = access false true true

unfoldable pub ea : ℕ → ℕ → Bool → Bool → Access
ea mode reg r w = access (is_indexed mode reg) (is_memory mode reg && r) (is_memory mode reg && w)

abbrev pub together : Access → Access → Access
together a b = access (a.indexed || b.indexed) (a.reads || b.reads) (a.writes || b.writes)

abbrev pub addressed : ℕ → Access
addressed op = ea (mode_of op) (reg_of op) false false

abbrev pub read : ℕ → Access
read op = ea (mode_of op) (reg_of op) true false

abbrev pub written : ℕ → Access
written op = ea (mode_of op) (reg_of op) false true

abbrev pub modified : ℕ → Access
modified op = ea (mode_of op) (reg_of op) true true

abbrev pub access_flags : Access → ℕ
access_flags a = num a.indexed * EA_INDEXED + num a.reads * READS_MEM + num a.writes * WRITES_MEM

pub record Entry : Type 0 where
  pub class : OepClass
  pub clocks : ℕ
  pub flags : ℕ
  pub access : Access

abbrev pub entry : OepClass → ℕ → ℕ → Access → Entry
entry class clocks flags a = record { class = class; clocks = clocks; flags = flags; access = a }

abbrev pub entry_word : Entry → ℕ
entry_word e = word_of (class_number e.class) e.clocks (e.flags + access_flags e.access)

abbrev pub plain : OepClass → ℕ → ℕ → Entry
plain class clocks flags = entry class clocks flags no_access

abbrev pub alu : Access → Entry
alu a = entry PoepSoep 1 DEFINES_CCR a

abbrev pub serial : Entry
serial = plain PoepOnly 1 VARIABLE

abbrev pub unclassified : Entry
unclassified = plain PoepOnly 1 (UNCLASSIFIED + VARIABLE)

abbrev pub packed : Rows Entry → Info060
packed rows = info (entry_word (first rows))
