-- Document 01, "Records and images": what was handed in is taken, or it is refused.
--
--   Verdict   ==  Ok, with nothing more to say, or a refusal
--   accepted  ==  what was handed in is taken
use Rattle.std.specs.Prelude.{Result, Ok}
use Rattle.refusals.specs.declared.Refusal.{Refusal}

abbrev pub Verdict : Type 0
Verdict = Result Unit Refusal

abbrev pub accepted : Verdict
accepted = Ok tt
