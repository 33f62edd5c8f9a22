-- `put_row`: the bytes one by one (`Row`), then the end of the line.
use Rattle.replaying.proofs.Rows.{Row}
use Rattle.replaying.proofs.hex_lines.put_row.Given as goal

abbrev pub invariant-loop-byte : goal.invariant-loop-byte
invariant-loop-byte l = Row l.bytes l.initial.out l.start l.out l.place l.byte-index
