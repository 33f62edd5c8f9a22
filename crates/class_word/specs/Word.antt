-- Document 01, part 1, "Class word". The Rust: OepClass, Info060 and the constants F_*.
--
--   class_number c        ==  the numbers of the classes, 0 to 3: the Rust's `enum OepClass`
--   BRANCH .. WRITES_MEM  ==  the flags
--                             "then flags: BRANCH 0080, DBCC 0100, .. (hex)"
--   word_of c k f         ==  the class word of class number c, k clocks and the sum f of some flags
--                             "class in bits 0 and 1, clocks in bits 2 to 6, then flags"
--   new_of c k f          ==  the word that the Rust's `Info060::new` packs from any numbers: of the clocks only five
--                             bits, and each bit of f, wherever it stands
--   class_of w            ==  the class number in a word
--                             "`class`, `cycles` and `has` answer from the word alone"
--   clocks_of w           ==  the clocks in a word
--   flags_of w            ==  the flags in a word
--   has w f               ==  the word and the flag f have a bit in common, for every f
--   info w, clocks n      ==  the structs of the code that hold a word and a number of 68060 clocks
use Rattle.std.specs.Prelude.{ℕ, ◌+◌, ◌*◌, ◌/◌, ◌%◌, Bool}
use Rattle.std.specs.Int.Bits.{bit_or}
use Rattle.bits.specs.Words.{meets}
use Rattle.class_word.specs.declared.Clocks.{Clocks}
use Rattle.class_word.specs.declared.Info060.{Info060}
use Rattle.class_word.specs.declared.OepClass.{OepClass}
use Rattle.class_word.specs.declared.OepClass.TheVariants.{PoepSoep, PoepOnly, PoepUntilLast, PoepButAllowsSoep}

abbrev pub class_number : OepClass → ℕ
class_number PoepSoep = 0
class_number PoepOnly = 1
class_number PoepUntilLast = 2
class_number PoepButAllowsSoep = 3

abbrev pub BRANCH : ℕ
BRANCH = 0x0080

abbrev pub DBCC : ℕ
DBCC = 0x0100

abbrev pub VARIABLE : ℕ
VARIABLE = 0x0200

abbrev pub DEFINES_CCR : ℕ
DEFINES_CCR = 0x0400

abbrev pub USES_CCR_LATE : ℕ
USES_CCR_LATE = 0x0800

abbrev pub EA_INDEXED : ℕ
EA_INDEXED = 0x1000

abbrev pub UNCLASSIFIED : ℕ
UNCLASSIFIED = 0x2000

abbrev pub READS_MEM : ℕ
READS_MEM = 0x4000

abbrev pub WRITES_MEM : ℕ
WRITES_MEM = 0x8000

abbrev pub word_of : ℕ → ℕ → ℕ → ℕ
word_of class clocks flags = class + 4 * clocks + flags

abbrev pub new_of : ℕ → ℕ → ℕ → ℕ
new_of class clocks flags = bit_or (word_of class (clocks % 32) 0) flags

abbrev pub class_of : ℕ → ℕ
class_of w = w % 4

abbrev pub clocks_of : ℕ → ℕ
clocks_of w = w / 4 % 32

abbrev pub flags_of : ℕ → ℕ
flags_of w = w / 128 * 128

abbrev pub has : ℕ → ℕ → Bool
has w f = meets w f

abbrev pub info : ℕ → Info060
info w = record { 0 = w }

abbrev pub clocks : ℕ → Clocks
clocks n = record { 0 = n }
