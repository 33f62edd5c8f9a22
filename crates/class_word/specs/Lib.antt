-- Document 01, part 1: the class word.
--
--   Word  ==  the classes, the flags, and the word that packs class, clocks and flags
pub mod Word
