-- A slot's byte under the masks of the code: the counter is taken out and put back by a remainder and a sum.
-- Assumes nothing.
use mathlib.Core.Path.{◌≡◌, ap, ◌∙◌}
use mathlib.Core.Bool.{Bool, true, false}
use Prim.Native.Nat.{ℕ, ◌+◌, ◌/◌, ◌<◌}
use native.Mathlib.Omega.{arith}
use lib.Bits.{bit_and, bit_or, and_mask, and_high, or_shifted}
use Rattle.branch_cache.specs.Slot.{counter_of, higher_of, counter_after_of}

pub byte_counter : (b : ℕ) → bit_and b 3 ≡ counter_of b
byte_counter b = and_mask b 2

pub byte_higher : (b : ℕ) → b < 256 → bit_and b 252 ≡ higher_of b
byte_higher b h = and_high b 6 2 ∙ omega arith

pub counter_stays : (n : ℕ) (taken : Bool) → n < 4 → counter_after_of n taken < 4
counter_stays n true h = omega arith
counter_stays n false h = omega arith

-- the counter n, stepped from the byte's, put under the higher bits
pub byte_steps : (b n : ℕ) (taken : Bool) → b < 256 → n ≡ counter_after_of (bit_and b 3) taken
    → bit_or (bit_and b 252) n ≡ higher_of b + counter_after_of (counter_of b) taken
byte_steps b n taken h e =
    let q : n ≡ counter_after_of (counter_of b) taken = e ∙ ap (λ (k : ℕ). counter_after_of k taken) (byte_counter b) in
    rw (byte_higher b h, q) (or_shifted (b / 4) 2 (counter_after_of (counter_of b) taken) (counter_stays (counter_of b) taken (omega arith)))
