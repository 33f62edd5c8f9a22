-- `run_batch_at`: by the batch's own verdict.
use mathlib.Core.Path.{sym, ◌∙◌}
use Rattle.profile.specs.Profile.{profile_at}
use Rattle.in_place.specs.Lent.{lent}
use Rattle.refusals.specs.Runs.{runs}
use Rattle.batch.proofs.Run.{accepted_within}
use Rattle.host.proofs.Batch.{batch_refused_lem, batch_accepted}
use Rattle.host.proofs.words.run_batch_at.Goals as goal

pub run_words-total-requires : goal.run_words-total-requires
run_words-total-requires c = accepted_within _ _ (sym c.batch_verdict.ensures ∙ c.in-Ok.is)

pub returns-in-Err : goal.returns-in-Err
returns-in-Err c =
    rw c.host_ran.ensures
    (batch_refused_lem (profile_at c.args.profile) c.args.records.now (runs c.args.costs.now c.args.answers.now)
    (lent c.args.tags.now c.args.state.now c.args.window.now) (sym c.batch_verdict.ensures ∙ c.in-Err.is))

pub returns-in-Ok : goal.returns-in-Ok
returns-in-Ok c =
    rw c.host_ran-in-Ok.ensures
    (batch_accepted (profile_at c.args.profile) c.args.records.now (runs c.args.costs.now c.args.answers.now)
    (lent c.args.tags.now c.args.state.now c.args.window.now) (sym c.batch_verdict.ensures ∙ c.in-Ok.is)
    (rw c.from-p.ensures at c.run_words-total.ensures))
