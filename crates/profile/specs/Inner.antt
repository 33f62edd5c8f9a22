-- What a function inside answers; nothing of it enters the promise of `read_in` or `instruction_060`.
--
--   chk_entry op  ==  the entry of CHK on a register but 4, of longs (below 4980) and of words
use Rattle.std.specs.Prelude.{ℕ, cond, ltb}
use Rattle.class_word.specs.declared.OepClass.TheVariants.{PoepOnly}
use Rattle.class_word.specs.Word.{VARIABLE}
use Rattle.classifier.specs.Entry.{Entry, plain}

abbrev pub chk_entry : ℕ → Entry
chk_entry op = plain PoepOnly (cond (ltb op 0x4980) 1 2) VARIABLE
