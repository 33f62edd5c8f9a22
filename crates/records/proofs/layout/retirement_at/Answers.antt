-- `layout::retirement_at`: each field is the number that its bytes stand for.
use mir.Facts.{to_z-of_z}
use mir.Syntax.{w32}
use Rattle.records.specs.Layout.{retirement_at}
use Rattle.records.proofs.layout.retirement_at.Goals as goal

pub returns : goal.returns
unfolding retirement_at
returns c =
    rw (
      to_z-of_z {w = w32} {z = c.i32_of.result} (record { sfits = c.i32_of.type_inv }),
      c.i32_of.ensures,
      c.u32_at.ensures,
      c.u32_at-pc.ensures,
      c.u32_at-ppc.ensures,
      c.u16_at-flags.ensures,
      c.u16_at-op.ensures,
    )
    at c.retirement_of.ensures
