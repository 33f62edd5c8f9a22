-- `put_named`: four texts and the end of the line, written one behind the other.
use native.Mathlib.Omega.{arith}
use Rattle.text.specs.Hex.{hex_of, hex_long_of}
use Rattle.text.specs.Written.{text_of, newline}
use Rattle.text.proofs.Writing.{wrote, wrote_more, wrote_whole}
use Rattle.replaying.proofs.head_line.put_named.Goals as goal

pub returns : goal.returns
returns c =
    let word = wrote _ _ (text_of "head ") (omega arith) c.put_bytes-a.ensures in
    let opcode = wrote_more word (hex_of c.args.op) (omega arith) c.put_hex-b.ensures in
    let between = wrote_more opcode (text_of " at ") (omega arith) c.put_bytes-c.ensures in
    let address = wrote_more between (hex_long_of c.args.address) (omega arith) c.put_hex-d.ensures in
    wrote_whole (wrote_more address newline (omega arith) c.put_bytes.ensures)
