-- `put_rows`: the rows one by one (`Rows`); the iterator has the bytes that are left.
use mathlib.Core.Path.{◌≡◌}
use Rattle.std.specs.Slice.Iter.{chunks_rest, chunks_size}
use Rattle.replaying.proofs.Rows.{Rows}
use Rattle.replaying.proofs.hex_lines.put_rows.Given as goal

abbrev pub invariant-loop-row : goal.invariant-loop-row
invariant-loop-row l =
    record {
      can_next : goal.iterator-loop-row.can_next l.row-iterator;
      is_finite : goal.iterator-loop-row.is_finite l.row-iterator;
      size : chunks_size l.row-iterator ≡ 32;
      rows : Rows l.image l.initial.out l.start l.out l.place (chunks_rest l.row-iterator);
    }
