-- The three bits of a window in a byte, put and taken out: what holds of packed bits.
use mathlib.Core.Path.{◌≡◌, ◌∙◌}
use mathlib.Core.Bool.{Bool}
use mathlib.Core.List.{List, [], ◌∷◌}
use Prim.Native.Nat.{ℕ, ◌<◌, ◌/◌}
use Rattle.bits.specs.Words.{bit, packed_bits}
use Rattle.bits.proofs.Packing.{bit_down, packed_bit, packed_small, packed_all}
use Rattle.window.specs.declared.Window.{Window}
use Rattle.image.specs.Bytes.{bits_of}

module _ (w : Window) where
  abbrev three : List Bool
  three = w.ccr ∷ w.mem ∷ w.warm ∷ []

  pub bits_small : bits_of w < 8
  unfolding bits_of
  bits_small = packed_small three

  pub bits_apart : (bit 0 (bits_of w) ≡ w.ccr) × (bit 1 (bits_of w) ≡ w.mem) × (bit 2 (bits_of w) ≡ w.warm)
  unfolding bits_of
  bits_apart = (packed_bit three 0, packed_bit three 1, packed_bit three 2)

-- the bits of a byte below 8 are all of it
pub bits_all : (b : ℕ) → b < 8 → packed_bits (bit 0 b ∷ bit 1 b ∷ bit 2 b ∷ []) ≡ b
bits_all b h = rw (bit_down 0 b, bit_down 1 b ∙ bit_down 0 (b / 2)) (packed_all 3 b h)
