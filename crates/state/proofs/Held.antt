-- Flags as one number hold each flag.
-- Assumes nothing.
use mathlib.Core.Path.{◌≡◌}
use mathlib.Core.Bool.{Bool}
use mathlib.Core.List.{List, [], ◌∷◌}
use Rattle.bits.proofs.Packing.{packed_bit}
use Rattle.window.specs.declared.dispatch.Controls.{Controls}
use Rattle.state.specs.Flags.{controls_of, control_flags_of}

pub controls_held : (k : Controls) → controls_of (control_flags_of k) k.ppc k.pc k.raw ≡ k
controls_held k =
    let flags : List Bool = k.flowed ∷ k.cached ∷ k.ess ∷ k.ebc ∷ k.supervisor ∷ [] in
    rw (packed_bit flags 0, packed_bit flags 1, packed_bit flags 2, packed_bit flags 3, packed_bit flags 4)
