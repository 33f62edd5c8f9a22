-- `put_rows`: the rows one by one (`Rows`); the iterator has the bytes that are left.
use borrow.Author.Rules.{rules}
use mathlib.Core.Path.{◌∙◌}
use Rattle.replaying.proofs.Rows.{rows_next, rows_end}
use Rattle.replaying.proofs.hex_lines.put_rows.Goals as goal

pub loop-row-preserved : goal.loop-row-preserved
loop-row-preserved c =
    let steps = c.in-Some.ensures.steps in
    let size = c.loop-row.invariant.size in
    record {
      can_next = search rules;
      is_finite = search rules;
      size = steps.0 ∙ size;
      rows = rows_next c.loop-row.invariant.rows _ _ steps.1.0 (rw size at steps.1.1) steps.1.2 c.put_row-place.ensures;
    }

pub returns : goal.returns
returns c = rows_end c.loop-row.invariant.rows c.in-None.ensures.steps.1.0
