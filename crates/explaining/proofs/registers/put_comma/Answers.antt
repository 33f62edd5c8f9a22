-- `put_comma`: where the mask has nothing below the bit there is no comma.
use Prim.Native.Nat.{◌%◌, ◌^◌}
use mathlib.Core.Path.{◌≡◌, sym}
use native.Mathlib.Omega.{arith}
use borrow.Author.Tests.{eq-eqb}
use Rattle.std.proofs.lemmas.Nat.{one_shl}
use Rattle.text.proofs.Writing.{written_none}
use Rattle.explaining.specs.Words.{comma}
use Rattle.explaining.proofs.registers.put_comma.Goals as goal

pub returns-then-mask-n-eq0 : goal.returns-then-mask-n-eq0
unfolding comma
returns-then-mask-n-eq0 c =
    let none : c.args.mask % 2 ^ c.args.n ≡ 0 = rw (one_shl c.args.n 16 (omega arith)) at c.if-mask-n-eq0.true in
    rw (eq-eqb (c.args.mask % 2 ^ c.args.n) 0 none) (sym (written_none _ _))
