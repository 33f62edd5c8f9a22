-- Document 01, "Records and images": what a run of a trace or a batch gives.
--
--   refused_of r t  ==  a run refused with r from the state t
--                       "A refused run or batch returns count 0, total 0 and the state it was given"
use Rattle.std.specs.Prelude.{Err}
use Rattle.state.specs.declared.Oep060Timing.{Oep060Timing}
use Rattle.state.specs.Timing.{seen_of}
use Rattle.refusals.specs.declared.Refusal.{Refusal}
use Rattle.refusals.specs.declared.outcome.Ran.{Ran}

abbrev pub refused_of : Refusal → Oep060Timing → Ran
refused_of refusal t = record { verdict = Err refusal; count = 0; total = 0; timing = seen_of t }
