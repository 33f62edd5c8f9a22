-- Document 02, R-4: what the mended profile says of an opcode, as rows over what the crate's says, in document 02's
-- order. The last row is the crate's own answer. The Rust has none.
--
--   from a to b op         ==  the opcode is one of a to b
--   on_register r op       ==  the same opcode with register r in bits 9 to 11
--   eor_of_registers op    ==  EOR between data registers: 1011 xxx 1ss 000 yyy, where the size ss is not 11
--   extb_long op           ==  EXTB.L
--   cmpm op                ==  CMPM: 1011 xxx 1ss 001 yyy, where the size ss is not 11
--   moves op               ==  MOVES
--   unpk op                ==  UNPK
--   chk_on_4, lea_on_4 op  ==  CHK, and LEA, on register 4
--   pack_for op            ==  PACK of the same registers as this UNPK: 8140 to 814F, with any register in bits 9 to 11
--   also_defines r i       ==  i, but it defines the registers of r too
--   touches_only r i       ==  i, but it uses and defines the registers of r, and no other
--   reads_memory i         ==  i, but its class word has READS_MEM too
--   classed_as word i      ==  i, but with this class word; uses and defs stay
--   both_addresses op      ==  the two address registers of CMPM: bits 0 to 2, and bits 9 to 11
--   mended_rows op i       ==  the rows, where i is what the crate's profile has of the opcode
--   in_lines op            ==  the opcode is of one of the lines
use Rattle.std.specs.Prelude.{ℕ, ◌+◌, ◌*◌, ◌-◌, Bool, not, ◌&&◌, ◌||◌, leb}
use Rattle.std.specs.Int.Bits.{bit_or}
use Rattle.bits.specs.Pattern.{bits, ◌O, ◌I, ◌X, matches}
use Rattle.bits.specs.Instructions.{size11}
use Rattle.bits.specs.Fields.{reg_of, dst_reg_of}
use Rattle.bits.specs.Rows.{Rows, otherwise, ◌⇒◌⨾◌}
use Rattle.class_word.specs.Word.{info, READS_MEM}
use Rattle.classifier.specs.Entry.{entry_word, unclassified}
use Rattle.classifier.specs.Classify.{classify_of}
use Rattle.masks.specs.Registers.{Regs, D, A, union, mask_of_regs}
use Rattle.window.specs.declared.dispatch.Instruction.{Instruction}

infix 10 from◌to◌
abbrev pub from◌to◌ : ℕ → ℕ → ℕ → Bool
from◌to◌ a b op = leb a op && leb op b

abbrev pub on_register : ℕ → ℕ → ℕ
on_register r op = op - dst_reg_of op * 512 + r * 512

-- ---- the lines
abbrev pub eor_of_registers : ℕ → Bool
eor_of_registers op = matches (bits I O I I X X X I X X O O O X X X) op && not (matches size11 op)

abbrev pub extb_long : ℕ → Bool
extb_long op = (from 0x49C0 to 0x49C7) op

abbrev pub cmpm : ℕ → Bool
cmpm op = matches (bits I O I I X X X I X X O O I X X X) op && not (matches size11 op)

abbrev pub moves : ℕ → Bool
moves op = (from 0x0E00 to 0x0EBF) op

abbrev pub unpk : ℕ → Bool
unpk op = (from 0x8180 to 0x818F) (on_register 0 op)

abbrev pub chk_on_4 : ℕ → Bool
chk_on_4 op = (from 0x4900 to 0x493F) op || (from 0x4980 to 0x49BF) op

abbrev pub lea_on_4 : ℕ → Bool
lea_on_4 op = (from 0x49C8 to 0x49FF) op

abbrev pub pack_for : ℕ → ℕ
pack_for op = op - 0x40

-- ---- what they change
abbrev pub also_defines : Regs → Instruction → Instruction
also_defines r i = record { word = i.word; uses = i.uses; defs = bit_or i.defs (mask_of_regs r) }

abbrev pub touches_only : Regs → Instruction → Instruction
touches_only r i = record { word = i.word; uses = mask_of_regs r; defs = mask_of_regs r }

abbrev pub reads_memory : Instruction → Instruction
reads_memory i = record { word = info (bit_or i.word.0 READS_MEM); uses = i.uses; defs = i.defs }

abbrev pub classed_as : ℕ → Instruction → Instruction
classed_as word i = record { word = info word; uses = i.uses; defs = i.defs }

abbrev pub both_addresses : ℕ → Regs
both_addresses op = union (A (dst_reg_of op)) (A (reg_of op))

-- "EOR between data registers also defines its destination; EXTB.L (49C0 to 49C7) uses and defines its data register
-- only; CMPM uses and defines both address registers and reads memory; MOVES is unclassified; UNPK is classed as PACK
-- is; CHK (4900 to 493F, 4980 to 49BF) and LEA (49C8 to 49FF) on register 4 are classed as on the other registers":
-- here as on register 0
unfoldable pub mended_rows : ℕ → Instruction → Rows Instruction
mended_rows op i =
    eor_of_registers op ⇒ also_defines (D (reg_of op)) i ⨾
    extb_long op ⇒ touches_only (D (reg_of op)) i ⨾
    cmpm op ⇒ reads_memory (touches_only (both_addresses op) i) ⨾
    moves op ⇒ classed_as (entry_word unclassified) i ⨾
    unpk op ⇒ classed_as (classify_of (pack_for op)) i ⨾
    chk_on_4 op ⇒ classed_as (classify_of (on_register 0 op)) i ⨾
    lea_on_4 op ⇒ classed_as (classify_of (on_register 0 op)) i ⨾
    otherwise i

abbrev pub in_lines : ℕ → Bool
in_lines op = eor_of_registers op || extb_long op || cmpm op || moves op || unpk op || chk_on_4 op || lea_on_4 op
