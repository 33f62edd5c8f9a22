-- Why a retirement costs what it costs, for a host: one step, and a run of a trace, on lent numbers. Document 02, R-1.
-- The Rust has none.
--
--   why_number x                ==  an explained retirement as the one 64-bit number that a single step hands back: its
--                                   clocks in the low 32 bits, above them 8 bits for what the cache predicted, and
--                                   above these the number of its reason
--   HostExplained               ==  this number, together with every lent number afterwards
--   host_explained n l          ==  these two
--   host_explained_of o         ==  the same of a retirement that was explained in place
--   explain_number_at_of p l r  ==  the retirement r explained on the lent numbers l, in the profile p
--   HostWhy                     ==  what a host sees of a run, together with the lent reasons afterwards
--   host_why o reasons          ==  these two
--   host_why_of l o             ==  the same of the outcome of a run that says why, on the lent numbers l
--   explain_trace_at_of         ==  the run of the trace in the profile p, with the two lent runs and the lent reasons,
--                                   on the lent numbers l
use Rattle.std.specs.Prelude.{ℕ, ◌+◌, ◌*◌, ◌^◌, List}
use Rattle.cost.specs.Branch.{answer_number}
use Rattle.profile.specs.declared.Profile.{Profile}
use Rattle.state.specs.declared.Retirement.{Retirement}
use Rattle.refusals.specs.Runs.{Runs}
use Rattle.in_place.specs.Lent.{Lent, state_at}
use Rattle.reasons.specs.declared.explain.Explained.{Explained}
use Rattle.reasons.specs.Reasons.{reason_number}
use Rattle.reasons.specs.Explain.{ExplainedAt, explain_at_of}
use Rattle.reasons.specs.ExplainRun.{ExplainOutcome, explain_trace_of}
use Rattle.host.specs.HostRan.{HostOutcome}
use Rattle.host.specs.HostRuns.{host_outcome_of_trace}

abbrev pub why_number : Explained → ℕ
why_number x = x.cost.0 + answer_number x.answer * 2 ^ 32 + reason_number x.reason * 2 ^ 40

pub record HostExplained : Type 0 where
  pub told : ℕ
  pub lent : Lent

abbrev pub host_explained : ℕ → Lent → HostExplained
host_explained n l = record { told = n; lent = l }

abbrev pub host_explained_of : ExplainedAt → HostExplained
host_explained_of o = host_explained (why_number o.explained) o.lent

abbrev pub explain_number_at_of : Profile → Lent → Retirement → HostExplained
explain_number_at_of p l r = host_explained_of (explain_at_of p l r)

pub record HostWhy : Type 0 where
  pub outcome : HostOutcome
  pub reasons : List ℕ

abbrev pub host_why : HostOutcome → List ℕ → HostWhy
host_why o reasons = record { outcome = o; reasons = reasons }

abbrev pub host_why_of : Lent → ExplainOutcome → HostWhy
host_why_of l o = host_why (host_outcome_of_trace l o.outcome) o.reasons

abbrev pub explain_trace_at_of : Profile → List ℕ → Runs → List ℕ → Lent → HostWhy
explain_trace_at_of p trace both reasons l = host_why_of l (explain_trace_of p trace both reasons (state_at l))
