-- Document 01, part 2, "Classifying an opcode". The Rust: classify_060_opcode.
--
-- Each group is a list of rows, tried in order: LowGroups, Group4 and HighGroups.
--
--   groups g op     ==  the rows of group g   "The top four bits choose the group"
--   entry_of op     ==  class, clocks and flags of an opcode
--   classify_of op  ==  the class word of an opcode
use Rattle.std.specs.Prelude.{ℕ, ◌&&◌, ◌||◌, eqb, leb}
use Rattle.bits.specs.Fields.{group_of}
use Rattle.bits.specs.Rows.{Rows, otherwise, ◌⇒◌⨾◌, first}
use Rattle.classifier.specs.Entry.{Entry, entry_word, unclassified}
use Rattle.classifier.specs.LowGroups.{group0, move, group5, group6, group7}
use Rattle.classifier.specs.Group4.{group4}
use Rattle.classifier.specs.HighGroups.{group8, add_sub, group11, group12, group14}

-- the last row is groups 10 and 15
abbrev pub groups : ℕ → ℕ → Rows (Rows Entry)
groups g op =
    eqb g 0 ⇒ group0 op ⨾
    leb 1 g && leb g 3 ⇒ move op ⨾
    eqb g 4 ⇒ group4 op ⨾
    eqb g 5 ⇒ group5 op ⨾
    eqb g 6 ⇒ group6 op ⨾
    eqb g 7 ⇒ group7 op ⨾
    eqb g 8 ⇒ group8 op ⨾
    eqb g 9 || eqb g 13 ⇒ add_sub op ⨾
    eqb g 11 ⇒ group11 op ⨾
    eqb g 12 ⇒ group12 op ⨾
    eqb g 14 ⇒ group14 op ⨾
    otherwise (otherwise unclassified)

abbrev pub entry_of : ℕ → Entry
entry_of op = first (first (groups (group_of op) op))

unfoldable pub classify_of : ℕ → ℕ
classify_of op = entry_word (entry_of op)
