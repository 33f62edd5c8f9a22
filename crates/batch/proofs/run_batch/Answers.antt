-- By the verdict, which leaves room for each record where it accepts.
use Rattle.std.proofs.Common.{sym, ◌∙◌}
use Rattle.batch.specs.Batch.{batch_of}
use Rattle.batch.proofs.Run.{accepted_within}
use Rattle.batch.proofs.run_batch.Goals as goal

pub run_all-requires : goal.run_all-requires
run_all-requires c =
    let w = accepted_within _ _ (sym c.batch_verdict.ensures ∙ c.in-Ok.is) in
    record { few = w.2; costs_fit = w.0; answers_fit = w.1 }

pub returns-in-Err : goal.returns-in-Err
unfolding batch_of
returns-in-Err c = simp (sym c.batch_verdict.ensures ∙ c.in-Err.is, c.refused.ensures)

pub returns-in-Ok : goal.returns-in-Ok
unfolding batch_of
returns-in-Ok c = simp (sym c.batch_verdict.ensures ∙ c.in-Ok.is) c.run_all.ensures
