-- Document 01, "Worked instructions": "reads a trace .. from standard input". What comes no promise can say; how much,
-- this one bounds.
--
--   Within most taken  ==  an input that was taken fills no more bytes than there are
use Rattle.std.specs.Prelude.{ℕ, ◌≤◌, Result, Ok, Err}

abbrev pub Within : {E : Type 0} → ℕ → Result ℕ E → Type 0
Within most (Ok n) = n ≤ most
Within most (Err e) = Unit {0}
