-- `explain_trace`: the verdict, with the shorter of answers and reasons as the second run's room, then the run.
use mathlib.Core.Path.{sym, ◌∙◌}
use lib.ListN.{length}
use Rattle.refusals.specs.Runs.{runs}
use Rattle.records.proofs.Refused.{taken_so}
use Rattle.reasons.proofs.Judging.{tells_both, not_explained, explained}
use Rattle.reasons.proofs.explain_trace.Goals as goal

pub explain_all-requires : goal.explain_all-requires
explain_all-requires c =
    let t = taken_so _ _ (sym c.judge_trace.ensures ∙ c.in-Ok.is) in
    let both =
    tells_both c.args.trace.now (length c.args.answers.now) (length c.args.reasons.now) c.min-places.ensures
    t.tells in
    record { room = record { size = t.size; fits = t.fits; tells = both.0 }; fits_reasons = both.1 }

pub returns-in-Err : goal.returns-in-Err
returns-in-Err c =
    not_explained c.args.profile c.args.trace.now (runs c.args.costs.now c.args.answers.now) c.args.reasons.now
    c.args.timing c.min-places.ensures
    (sym c.judge_trace.ensures ∙ c.in-Err.is) c.refused.ensures

pub returns-in-Ok : goal.returns-in-Ok
returns-in-Ok c =
    explained c.args.profile c.args.trace.now (runs c.args.costs.now c.args.answers.now) c.args.reasons.now
    c.args.timing c.min-places.ensures
    (sym c.judge_trace.ensures ∙ c.in-Ok.is) c.explain_all.ensures
