-- `run_trace`: the verdict, then the run.
use mathlib.Core.Path.{sym, ◌∙◌}
use Rattle.records.proofs.Refused.{taken_so}
use Rattle.trace.proofs.Judging.{not_taken, taken}
use Rattle.trace.proofs.run_trace.Goals as goal

pub run_all-requires : goal.run_all-requires
run_all-requires c =
    let t = taken_so _ _ (sym c.judge_trace.ensures ∙ c.in-Ok.is) in
    record { size = t.size; fits = t.fits; tells = t.tells }

pub returns-in-Err : goal.returns-in-Err
returns-in-Err c = not_taken _ _ _ _ (sym c.judge_trace.ensures ∙ c.in-Err.is) c.refused.ensures

pub returns-in-Ok : goal.returns-in-Ok
returns-in-Ok c = taken _ _ _ _ (sym c.judge_trace.ensures ∙ c.in-Ok.is) c.run_all.ensures
