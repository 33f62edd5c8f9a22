-- `Slot::hit`: the mask 1 << 2 meets the byte where bit 2 is set, and the tags are compared as the definition does.
use borrow.Author.Tests.{ne_eqb}
use Rattle.bits.proofs.Words.{meets_bit}
use Rattle.branch_cache.proofs.slot.Slot.hit.Goals as goal

pub returns-then-self-ne0 : goal.returns-then-self-ne0
returns-then-self-ne0 c = simp (← meets_bit c.args.self.byte 2, ne_eqb _ _ c.if-self-ne0.true)

pub returns-else-self-ne0 : goal.returns-else-self-ne0
returns-else-self-ne0 c = simp (← meets_bit c.args.self.byte 2, c.if-self-ne0.false)
