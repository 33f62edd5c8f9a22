-- Numbers hold what a window holds.
-- Assumes nothing.
use mathlib.Core.Path.{◌≡◌, refl, ap}
use mathlib.Core.Bool.{Bool, true, false}
use Prim.Native.Nat.{ℕ, ◌+◌, ◌*◌, ◌/◌, ◌%◌}
use native.Mathlib.Omega.{arith}
use Rattle.bits.specs.Words.{num}
use Rattle.window.specs.declared.Window.{Window}
use Rattle.in_place.specs.WindowNumbers.{yes, window_at, numbers_of}

yes_held : (b : Bool) → yes (num b) ≡ b
yes_held true = refl
yes_held false = refl

halves_held : (n : ℕ) → n % 65536 + n / 65536 * 65536 ≡ n
halves_held n = omega arith

-- a window but for its address
abbrev with_address : Window → ℕ → Window
with_address w n = record { opened = w.opened; defs = w.defs; ccr = w.ccr; mem = w.mem; warm = w.warm; op = w.op; address = n }

pub window_held : (w : Window) → window_at (numbers_of w) ≡ w
window_held w =
    rw (yes_held w.opened, yes_held w.ccr, yes_held w.mem, yes_held w.warm)
    (ap (λ (n : ℕ). with_address w n) (halves_held w.address))
