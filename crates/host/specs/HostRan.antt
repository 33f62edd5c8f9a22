-- What a run gives a host, as numbers. Document 01, "Records and images". The Rust has none.
--
--   refusal_of v                ==  the number of a verdict: 0 where it accepts, else the refusal's
--                                   (the table's column "No.")
--   refusal_place_of v          ==  the place of a verdict: 0 where it accepts, else the refusal's
--                                   (the table's column "Place")
--   host_ran_of v count total   ==  what a run gives, as four numbers
--   HostOutcome                 ==  what is returned, together with every lent number afterwards: the two runs for the
--                                   costs and the answers, and the state's
--   host_outcome ran both l     ==  these three
--   lent_after v l t            ==  the lent numbers after a run: those of its next state t, or as they were, l, where
--                                   it is refused
--                                   "lent memory is untouched"
--   host_outcome_of l ran both  ==  the same of a run on the lent numbers l as the crates below hand it back, and the
--                                   two runs that it leaves
use Rattle.std.specs.Prelude.{ℕ, Ok, Err}
use Rattle.refusals.specs.declared.outcome.Ran.{Ran}
use Rattle.refusals.specs.Refusals.{number_of, place_of}
use Rattle.refusals.specs.Runs.{Runs}
use Rattle.refusals.specs.Verdict.{Verdict}
use Rattle.host.specs.declared.results.HostRan.{HostRan}
use Rattle.in_place.specs.Lent.{Lent, lent_of}
use Rattle.state.specs.declared.Oep060Timing.{Oep060Timing}

abbrev pub refusal_of : Verdict → ℕ
refusal_of (Ok done) = 0
refusal_of (Err refusal) = number_of refusal

abbrev pub refusal_place_of : Verdict → ℕ
refusal_place_of (Ok done) = 0
refusal_place_of (Err refusal) = place_of refusal

abbrev pub host_ran_of : Verdict → ℕ → ℕ → HostRan
host_ran_of v count total = record { refusal = refusal_of v; place = refusal_place_of v; count = count; total = total }

pub record HostOutcome : Type 0 where
  pub ran : HostRan
  pub runs : Runs
  pub lent : Lent

abbrev pub host_outcome : HostRan → Runs → Lent → HostOutcome
host_outcome ran both l = record { ran = ran; runs = both; lent = l }

abbrev pub lent_after : Verdict → Lent → Oep060Timing → Lent
lent_after (Ok done) l t = lent_of t
lent_after (Err refusal) l t = l

abbrev pub host_outcome_of : Lent → Ran → Runs → HostOutcome
host_outcome_of l ran both =
    host_outcome (host_ran_of ran.verdict ran.count ran.total) both (lent_after ran.verdict l ran.timing)
