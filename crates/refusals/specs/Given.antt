-- Document 01, "Records and images": "Each number is given then and only then". The Rust has none.
--
--   is_accepted v  ==  the verdict takes what was handed in
--   gives n p v    ==  the verdict is the refusal with the number n at the place p
use Rattle.std.specs.Prelude.{ℕ, Bool, true, false, ◌&&◌, Ok, Err, eqb}
use Rattle.refusals.specs.Verdict.{Verdict}
use Rattle.refusals.specs.Refusals.{number_of, place_of}

abbrev pub is_accepted : Verdict → Bool
is_accepted (Ok done) = true
is_accepted (Err refusal) = false

abbrev pub gives : ℕ → ℕ → Verdict → Bool
gives n p (Ok done) = false
gives n p (Err refusal) = eqb (number_of refusal) n && eqb (place_of refusal) p
