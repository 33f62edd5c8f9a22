-- `put_u16`: the bytes that are stored are the number's, the lowest first.
use mathlib.Core.Path.{refl, ◌∙◌}
use Rattle.little_endian.specs.Numbers.{bytes_of}
use Rattle.little_endian.proofs.Numbers.{copy_puts}
use Rattle.little_endian.proofs.storing.put_u16.Goals as goal

pub returns : goal.returns
unfolding bytes_of
returns c = copy_puts c.args.s.now c.args.at 2 (bytes_of 2 c.args.n) _ (c.copy_from_slice.ensures.after ∙ c.to_le_bytes.ensures) refl
