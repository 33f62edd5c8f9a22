-- What a run of a trace or a batch is lent to write. Document 01, "Records and images": "A trace run writes 4 bytes per
-- retirement"; document 02, R-5: "batch and trace run also write one byte a retirement into a second lent run".
-- The Rust has none.
--
--   Runs                 ==  the two lent runs: the costs, bytes of a trace run and 32-bit places of a batch; and the
--                            answers, bytes
--   runs costs answers   ==  these two
--   Rooms                ==  how long the two are
--   rooms costs answers  ==  these two lengths
--   rooms_of lent        ==  the lengths of two lent runs
use Rattle.std.specs.Prelude.{ℕ, List, length}

pub record Runs : Type 0 where
  pub costs : List ℕ
  pub answers : List ℕ

abbrev pub runs : List ℕ → List ℕ → Runs
runs costs answers = record { costs = costs; answers = answers }

pub record Rooms : Type 0 where
  pub costs : ℕ
  pub answers : ℕ

abbrev pub rooms : ℕ → ℕ → Rooms
rooms costs answers = record { costs = costs; answers = answers }

abbrev pub rooms_of : Runs → Rooms
rooms_of lent = rooms (length lent.costs) (length lent.answers)
