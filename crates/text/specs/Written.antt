-- Document 01, "Worked instructions": "Whole output". Text is a list of characters, each as the number of its byte.
--
--   text_of quoted           ==  the characters of a quoted text
--   newline                  ==  the end of a line
--   Written                  ==  what a function that writes text answers, the place behind the text, together with the
--                                lent bytes afterwards
--   written next lent        ==  the two together
--   written_of lent at text  ==  the text put into the lent bytes from the place `at` on, all others as they were
use Rattle.std.specs.Prelude.{ℕ, ◌+◌, List, [], ◌∷◌, length}
use Prim.Native.Char.{code}
use Prim.Native.String.{String, [] as empty, ◌∷◌ as ◌before◌}
use Rattle.little_endian.specs.Numbers.{put_at}

abbrev pub text_of : String → List ℕ
text_of empty = []
text_of (c before s) = code c ∷ text_of s

abbrev pub newline : List ℕ
newline = text_of "\n"

pub record Written : Type 0 where
  pub next : ℕ
  pub bytes : List ℕ

abbrev pub written : ℕ → List ℕ → Written
written next lent = record { next = next; bytes = lent }

unfoldable pub written_of : List ℕ → ℕ → List ℕ → Written
written_of lent at text = written (at + length text) (put_at lent at text)
