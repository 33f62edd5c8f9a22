-- `put_table`: the state as lent numbers, then the header, the lines, the total and the counts, each written behind the
-- one before it.
use Prim.Native.Nat.{ℕ, ◌+◌, ◌^◌, ◌≤◌, ◌<◌}
use mathlib.Core.Path.{◌≡◌, sym, subst}
use mathlib.Core.Bool.{Bool}
use mathlib.Core.List.{List}
use borrow.Author.Rules.{rules}
use lib.ListN.{length}
use Rattle.profile.specs.declared.Profile.{Profile}
use Rattle.state.specs.declared.Oep060Timing.{Oep060Timing}
use Rattle.records.specs.Trace.{Trace, read_trace}
use Rattle.explaining.specs.declared.Put.{Put}
use Rattle.explaining.specs.WhyLines.{why_lines}
use Rattle.explaining.specs.Inner.{met_by, Lined}
use Rattle.explaining.proofs.Table.{lines_room, total_room, counts_room, table_whole}
use Rattle.explaining.proofs.Whole.{seen_lent}
use Rattle.explaining.proofs.put_table.Goals as goal

module _ (p : Profile) (said : Trace) {t u : Oep060Timing} (so : t ≡ u) (full : Bool) (out : List ℕ) (start : ℕ) where
  -- the lines of the retirements as they are met from the state as it is read
  lined : {put : Put} {after : List ℕ} → Lined full out start (met_by p t said) put after
      → Lined full out start (met_by p u said) put after
  lined {put} {after} l =
      subst (λ (x : Oep060Timing). Lined full out start (met_by p x said) put after) so l

  room : start + length (why_lines full 0 (met_by p u said)) ≤ length out
      → start + length (why_lines full 0 (met_by p t said)) ≤ length out
  room h = subst (λ (x : Oep060Timing). start + length (why_lines full 0 (met_by p x said)) ≤ length out) (sym so) h

pub put_lines-put-requires-clause-trace_in_bounds : goal.put_lines-put-requires-clause-trace_in_bounds
put_lines-put-requires-clause-trace_in_bounds c =
    let so = seen_lent c.args.timing c.seen-read.ensures c.put_window.ensures in
    room c.args.profile (read_trace c.args.trace.now) so c.args.full _ _
    (lines_room c.args.full c.args.profile c.args.timing (read_trace c.args.trace.now) c.requires.fits_answers _
    c.requires.trace_in_bounds c.put_header-a.ensures)

pub put_total-b-requires : goal.put_total-b-requires
put_total-b-requires c =
    let so = seen_lent c.args.timing c.seen-read.ensures c.put_window.ensures in
    let l = lined c.args.profile (read_trace c.args.trace.now) so c.args.full _ _ c.put_lines-put.ensures in
    total_room c.args.full c.args.profile c.args.timing (read_trace c.args.trace.now) c.requires.fits_answers _
    c.requires.trace_in_bounds c.put_header-a.ensures l

pub put_counts-requires : goal.put_counts-requires
put_counts-requires c =
    let so = seen_lent c.args.timing c.seen-read.ensures c.put_window.ensures in
    let l = lined c.args.profile (read_trace c.args.trace.now) so c.args.full _ _ c.put_lines-put.ensures in
    let n : c.put_lines-put.result.count < 2 ^ 64 = search rules in
    let s : c.put_lines-put.result.total < 2 ^ 64 = search rules in
    counts_room c.args.full c.args.profile c.args.timing (read_trace c.args.trace.now) c.requires.fits_answers _
    c.requires.trace_in_bounds c.put_header-a.ensures l n s c.put_total-b.ensures

pub returns : goal.returns
returns c =
    let so = seen_lent c.args.timing c.seen-read.ensures c.put_window.ensures in
    let l = lined c.args.profile (read_trace c.args.trace.now) so c.args.full _ _ c.put_lines-put.ensures in
    let n : c.put_lines-put.result.count < 2 ^ 64 = search rules in
    let s : c.put_lines-put.result.total < 2 ^ 64 = search rules in
    table_whole c.args.full c.args.profile c.args.timing (read_trace c.args.trace.now) c.requires.fits_answers _
    c.requires.trace_in_bounds c.put_header-a.ensures l n s c.put_total-b.ensures c.put_counts.ensures
