-- Demand 3 of document 00, of one retirement: when it costs 0. It follows from document 01's "One retirement"; the Rust
-- has no item for it.
--
--   sound word  ==  what demand 3 needs of a class word: at least 1 clock; exactly 1 in class 0; and no BRANCH word in
--                   class 0 (document 01: "Class 0 entries all have 1 clock")
--   joining r   ==  "keeps the flow and passes the dispatch test"
--   folding r   ==  "a .. correctly predicted taken branch"; the answer is `PredictedTaken` only for one that is
--                   "cached .. with the branch cache on", which is said where the answer is made
--   free r      ==  "the window was open and it either .. or .."
use Rattle.std.specs.Prelude.{ℕ, Bool, not, ◌&&◌, ◌||◌, ◌==◌, nat_le}
use Rattle.class_word.specs.Word.{has, class_of, clocks_of, BRANCH}
use Rattle.cost.specs.Branch.{taken_of, predicts_taken}
use Rattle.cost.specs.Retiring.{Retiring}
use Rattle.window.specs.Dispatch.{passes}

unfoldable pub sound : ℕ → Bool
sound word =
    nat_le 1 (clocks_of word)
    && (not (class_of word == 0) || clocks_of word == 1)
    && not (class_of word == 0 && has word BRANCH)

abbrev pub joining : Retiring → Bool
joining r = not r.controls.flowed && passes r.instruction r.controls r.window

abbrev pub folding : Retiring → Bool
folding r = has r.instruction.word.0 BRANCH && predicts_taken r.answer && taken_of r.instruction r.controls

unfoldable pub free : Retiring → Bool
free r = r.window.opened && (joining r || folding r)
