-- `put_registers`: there is room for the next, and it stands behind the others.
use borrow.Author.Rules.{rules}
use Rattle.rule_text.proofs.Each.{each_room, each_on}
use Rattle.explaining.specs.Words.{register_text}
use Rattle.explaining.proofs.registers.put_registers.Goals as goal

pub put_register-place-requires-clause-n_in_bounds : goal.put_register-place-requires-clause-n_in_bounds
put_register-place-requires-clause-n_in_bounds c =
    each_room (register_text c.args.mask) 16 _ _ _ c.loop-n.invariant (search rules) c.requires

pub loop-n-preserved : goal.loop-n-preserved
loop-n-preserved c =
    each_on (register_text c.args.mask) 16 _ _ _ c.loop-n.invariant (search rules) c.requires
    c.put_register-place.ensures
