-- `put_retirement`: four texts, each written behind the one before it.
use native.Mathlib.Omega.{arith}
use Rattle.text.specs.Hex.{hex_of}
use Rattle.text.specs.Written.{text_of}
use Rattle.text.proofs.Writing.{wrote, wrote_more, wrote_whole}
use Rattle.showing.specs.Lines.{controls_text}
use Rattle.showing.proofs.lines.put_retirement.Goals as goal

pub returns : goal.returns
returns c =
    let word = wrote _ _ (text_of "retirement ") (omega arith) c.put_bytes-a.ensures in
    let opcode = wrote_more word (hex_of c.args.r.op) (omega arith) c.put_hex-b.ensures in
    let blank = wrote_more opcode (text_of " ") (omega arith) c.put_bytes-c.ensures in
    wrote_whole (wrote_more blank (controls_text c.args.r.controls) (omega arith) c.put_controls.ensures)
