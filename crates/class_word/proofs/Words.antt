-- Packing and unpacking a class word.
-- Assumes nothing.
use mathlib.Core.Path.{◌≡◌}
use Prim.Native.Nat.{ℕ, ◌+◌, ◌*◌, ◌/◌, ◌%◌, ◌^◌, ◌<◌}
use native.Mathlib.Omega.{arith}
use lib.Bits.{bit_and, bit_or, and_mask, or_shifted_r}
use Rattle.class_word.specs.declared.OepClass.{OepClass}
use Rattle.class_word.specs.declared.OepClass.TheVariants.{PoepSoep, PoepOnly, PoepUntilLast, PoepButAllowsSoep}
use Rattle.class_word.specs.Word.{class_number, word_of, new_of, class_of, clocks_of, flags_of}

pub class_small : (k : OepClass) → class_number k < 4
class_small PoepSoep = omega arith
class_small PoepOnly = omega arith
class_small PoepUntilLast = omega arith
class_small PoepButAllowsSoep = omega arith

-- the shifts and ors that pack a class number, clocks and flags
pub packs : (n k f : ℕ) → n < 4 → bit_or (bit_or (n * 1 % 65536) (bit_and k 31 * 4 % 65536)) f ≡ new_of n k f
packs n k f hn =
    let a : n * 1 % 65536 ≡ n = omega arith in
    let b : bit_and k 31 * 4 % 65536 ≡ (k % 32) * 4 = omega (arith, and_mask k 5) in
    let e : bit_or n ((k % 32) * 4) ≡ (k % 32) * 4 + n = or_shifted_r (k % 32) 2 n hn in
    let g : (k % 32) * 4 + n ≡ word_of n (k % 32) 0 = omega arith in
    rw (a, b, e, g)

-- flags that leave the low seven bits to class and clocks are added
pub new_apart : (n k f : ℕ) → n < 4 → k < 32 → f % 128 ≡ 0 → new_of n k f ≡ word_of n k f
new_apart n k f hn hk hf =
    let m : k % 32 ≡ k = omega arith in
    let d : word_of n k 0 < 2 ^ 7 = omega arith in
    let q : f / 128 * 128 ≡ f = omega arith in
    let g : bit_or (word_of n k 0) (f / 128 * 128) ≡ f / 128 * 128 + word_of n k 0 = or_shifted_r (f / 128) 7 (word_of n k 0) d in
    let z : bit_or (word_of n k 0) f ≡ f + word_of n k 0 = rw q at g in
    rw (m, z) (omega arith)

pub class_bits : (w : ℕ) → bit_and (w / 1) 3 ≡ class_of w
class_bits w = let h : bit_and (w / 1) 3 ≡ (w / 1) % 4 = and_mask (w / 1) 2 in omega arith

-- a word's parts are those that it was made of
module _ (n k f : ℕ) (hn : n < 4) (hk : k < 32) (hf : f % 128 ≡ 0) where
  pub word_class : class_of (word_of n k f) ≡ n
  word_class = omega arith

  pub word_clocks : clocks_of (word_of n k f) ≡ k
  word_clocks = omega arith

  pub word_flags : flags_of (word_of n k f) ≡ f
  word_flags = omega arith
