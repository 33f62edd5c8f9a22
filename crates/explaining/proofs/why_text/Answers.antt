-- `why_text`: the refusal's line, or the whole text, by the verdict; either lies within the lent bytes.
use mathlib.Core.Path.{sym, ◌∙◌}
use native.Mathlib.Omega.{arith}
use Rattle.showing.proofs.Shown.{within}
use Rattle.explaining.specs.Why.{why_of}
use Rattle.explaining.proofs.Whole.{why_refused, why_few, why_room, why_whole}
use Rattle.explaining.proofs.why_text.Goals as goal

pub put_table-requires : goal.put_table-requires
put_table-requires c =
    let v = sym c.judge_short.ensures ∙ c.in-Ok.is in
    record {
      fits_answers = why_few c.args.full c.args.profile c.args.trace.now c.args.timing v;
      trace_in_bounds =
          omega (arith, why_room c.args.full c.args.profile c.args.trace.now c.args.timing v, c.well_formed);
    }

pub returns-in-Err : goal.returns-in-Err
returns-in-Err c =
    let said =
    why_refused c.args.full c.args.profile c.args.trace.now c.args.timing
    (sym c.judge_short.ensures ∙ c.in-Err.is) in
    let e = rw (← said) at c.put_refusal.ensures in
    record {
      text_after = e;
      upper_bound =
          within c.args.text.now (why_of c.args.full c.args.profile c.args.trace.now c.args.timing) e
          c.put_refusal.auto.out;
    }

pub returns-in-Ok : goal.returns-in-Ok
returns-in-Ok c =
    let v = sym c.judge_short.ensures ∙ c.in-Ok.is in
    let e = rw (why_whole c.args.full c.args.profile c.args.trace.now c.args.timing v) at c.put_table.ensures in
    record {
      text_after = e;
      upper_bound =
          within c.args.text.now (why_of c.args.full c.args.profile c.args.trace.now c.args.timing) e
          c.put_table.auto.out;
    }
