-- Yes and no packed into a number: each bit is the yes or no that was packed there, and the bits of a number, packed, are the number.
-- Assumes nothing.
use mathlib.Core.Path.{◌≡◌, refl, sym, ap, ◌∙◌}
use mathlib.Core.Bool.{Bool, false}
use mathlib.Core.List.{List, [], ◌∷◌}
use Prim.Native.Nat.{ℕ, zero, suc, ◌+◌, ◌*◌, ◌/◌, ◌%◌, ◌^◌, ◌<◌}
use native.Mathlib.Nat.{pow-suc}
use native.Mathlib.Numerals.{one-add}
use native.Mathlib.Omega.{arith}
use lib.Dec.{eqb}
use lib.ListN.{length, get_or}
use lib.Pow.{shr-shr}
use Rattle.bits.specs.Words.{num, bit, packed_bits}
use Rattle.bits.proofs.Words.{num_small, num_is}

-- the bits above the lowest are those of the half
pub bit_down : (i w : ℕ) → bit (suc i) w ≡ bit i (w / 2)
bit_down i w = ap (λ (a : ℕ). eqb (a % 2) 1) (ap (λ (n : ℕ). w / 2 ^ n) (sym (one-add i)) ∙ sym (shr-shr w 1 i))

none : (i : ℕ) → bit i 0 ≡ false
none zero = refl
none (suc i) = bit_down i 0 ∙ none i

pub packed_bit : (bs : List Bool) (i : ℕ) → bit i (packed_bits bs) ≡ get_or bs i false
packed_bit [] i = none i
packed_bit (b ∷ bs) zero =
    let q : (num b + 2 * packed_bits bs) / 1 % 2 ≡ num b = omega (arith, num_small b) in
    ap (λ (a : ℕ). eqb a 1) q ∙ num_is b
packed_bit (b ∷ bs) (suc i) =
    let q : (num b + 2 * packed_bits bs) / 2 ≡ packed_bits bs = omega (arith, num_small b) in
    bit_down i (num b + 2 * packed_bits bs) ∙ ap (bit i) q ∙ packed_bit bs i

pub packed_small : (bs : List Bool) → packed_bits bs < 2 ^ length bs
packed_small [] = omega arith
packed_small (b ∷ bs) =
    let p : 2 ^ suc (length bs) ≡ 2 ^ length bs * 2 = pow-suc 2 (length bs) in
    omega (arith, num_small b, packed_small bs)

digit : (n : ℕ) → num (bit 0 n) ≡ n % 2
digit n = go (n / 1 % 2) (omega arith) (omega arith)
  where
    go : (d : ℕ) → d ≡ n % 2 → d < 2 → num (eqb d 1) ≡ n % 2
    go zero e h = e
    go (suc zero) e h = e
    go (suc (suc d)) e h = absurd (omega arith)

-- the lowest k bits of a number
abbrev pub unpacked : ℕ → ℕ → List Bool
unpacked zero n = []
unpacked (suc k) n = bit 0 n ∷ unpacked k (n / 2)

pub packed_all : (k n : ℕ) → n < 2 ^ k → packed_bits (unpacked k n) ≡ n
packed_all zero n h = omega arith
packed_all (suc k) n h =
    let p : 2 ^ suc k ≡ 2 ^ k * 2 = pow-suc 2 k in
    let l : n / 2 < 2 ^ k = omega arith in
    omega (arith, digit n, packed_all k (n / 2) l)
