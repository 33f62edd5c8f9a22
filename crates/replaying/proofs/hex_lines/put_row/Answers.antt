-- `put_row`: the bytes one by one (`Row`), then the end of the line.
use native.Mathlib.Omega.{arith}
use Rattle.replaying.proofs.Rows.{row_byte, row_end}
use Rattle.replaying.proofs.hex_lines.put_row.Goals as goal

pub loop-byte-preserved : goal.loop-byte-preserved
loop-byte-preserved c = row_byte c.loop-byte.invariant c.requires (omega arith) c.put_hex-place.ensures

pub returns : goal.returns
returns c = row_end c.loop-byte.invariant c.requires (omega arith) c.put_bytes.ensures
