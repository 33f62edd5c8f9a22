-- `registers::register_of`: Dn where the mode is 0, else An.
use mathlib.Core.Path.{refl}
use Prim.Native.Nat.{◌+◌}
use borrow.Author.Rules.{rules}
use borrow.Author.Tests.{lt-ltb, le-ltb}
use Rattle.masks.proofs.RegistersLaws.{mask_only}
use Rattle.masks.proofs.registers.register_of.Goals as goal

pub returns-then-mode-lt1 : goal.returns-then-mode-lt1
returns-then-mode-lt1 c = rw (lt-ltb c.args.mode 1 c.if-mode-lt1.true) (mask_only c.args.reg refl (search rules))

pub returns-else-mode-lt1 : goal.returns-else-mode-lt1
returns-else-mode-lt1 c = rw (le-ltb c.args.mode 1 c.if-mode-lt1.false) (mask_only (8 + c.args.reg) refl (search rules))
