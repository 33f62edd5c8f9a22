-- Runs of a trace, on lent numbers; of a batch: HostWords. Document 01, "Records and images". The Rust has none.
--
--   host_outcome_of_trace l o       ==  what a host sees of the outcome of a run of a trace on the lent numbers l
--   run_trace_at_of p trace both l  ==  the run of the trace in the profile p, with the two lent runs, on the lent
--                                       numbers l
use Rattle.std.specs.Prelude.{ℕ, List}
use Rattle.profile.specs.declared.Profile.{Profile}
use Rattle.refusals.specs.Runs.{Runs}
use Rattle.trace.specs.Run.{TraceOutcome, run_trace_of}
use Rattle.in_place.specs.Lent.{Lent, state_at}
use Rattle.host.specs.HostRan.{HostOutcome, host_outcome_of}

abbrev pub host_outcome_of_trace : Lent → TraceOutcome → HostOutcome
host_outcome_of_trace l o = host_outcome_of l o.ran o.lent

abbrev pub run_trace_at_of : Profile → List ℕ → Runs → Lent → HostOutcome
run_trace_at_of p trace both l = host_outcome_of_trace l (run_trace_of p trace both (state_at l))
