-- `run_short`: the size, then the run; within the limit it has room for all costs and answers.
use mathlib.Core.Path.{◌∙◌}
use borrow.Author.Rules.{rules}
use Rattle.refusals.specs.Runs.{runs}
use Rattle.listing.proofs.Listing.{judged_large, run_small}
use Rattle.listing.proofs.run_short.Goals as goal

pub returns-then-trace-gt-MOST_LISTED_BYTES : goal.returns-then-trace-gt-MOST_LISTED_BYTES
returns-then-trace-gt-MOST_LISTED_BYTES c = rw (judged_large _ c.if-trace-gt-MOST_LISTED_BYTES.true, c.refused.ensures)

pub returns : goal.returns
returns c =
    let a = c.args in
    c.run_trace.ensures
    ∙ run_small _ c.if-trace-gt-MOST_LISTED_BYTES.false a.profile (runs a.costs.now a.answers.now) a.timing (search rules)
