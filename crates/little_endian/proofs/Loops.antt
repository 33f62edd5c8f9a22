-- Loops over numbers in bytes, over any width: one that puts a list of numbers, and one that reads as many.
-- Assumes nothing.
use mathlib.Core.Path.{◌≡◌, refl, sym, ap, ◌∙◌}
use mathlib.Core.List.{List, [], ◌∷◌, append-nil}
use Prim.Native.Nat.{ℕ, zero, suc, ◌+◌, ◌*◌, ◌%◌, ◌<◌, ◌≤◌}
use native.Mathlib.Nat.{add-zero, mul-le-mul_left}
use native.Mathlib.Numerals.{add-one}
use native.Mathlib.Omega.{arith}
use lib.ListN.{length, get_or, set, take, drop, take-append-drop}
use lib.Seq.{length-take-le, take_all, drop-cons, sets-eq}
use Rattle.little_endian.specs.Numbers.{bytes_of, put_at, bytes_of_each, number_at, numbers_at, Below}
use Rattle.little_endian.proofs.Numbers.{put_joins}
use Rattle.bits.proofs.Filling.{filled, filled_put, filled_all}
use Rattle.little_endian.proofs.Each.{each_length, each_more, numbers_length, numbers_get}

-- bytes put where none are
pub put_none : (s : List ℕ) (at : ℕ) → put_at s at [] ≡ s
unfolding put_at
put_none s at = rw (add-zero at, append-nil) (take-append-drop at s)

-- before the loop that puts
pub put_none_yet : (k at : ℕ) (s : List ℕ) → s ≡ put_at s at (bytes_of_each k [])
unfolding bytes_of_each
put_none_yet k at s = sym (put_none s at)

-- a loop that puts the numbers ns, k bytes each, from a place on
module _ (k at : ℕ) (s ns : List ℕ) (room : at + k * length ns ≤ length s) (i : ℕ) (out : List ℕ) (e : out ≡ put_at s at (bytes_of_each k (take i ns))) where
  -- a turn
  pub put_next : i < length ns → put_at out (at + k * i) (bytes_of k (get_or ns i 0)) ≡ put_at s at (bytes_of_each k (take (i + 1) ns))
  put_next h =
      let front : List ℕ = bytes_of_each k (take i ns) in
      let l : length front ≡ k * i = each_length k (take i ns) ∙ ap (λ (n : ℕ). k * n) (length-take-le i ns (omega arith)) in
      let m : k * i ≤ k * length ns = mul-le-mul_left k (omega arith) in
      let j = put_joins s at front (omega arith) (bytes_of k (get_or ns i 0)) in
      rw (e, ← l, add-one, ← each_more k ns i h) j

  -- the end of the loop
  pub put_all : length ns ≤ i → out ≡ put_at s at (bytes_of_each k ns)
  put_all h = e ∙ rw (take_all i ns h)

-- a store puts one byte
pub set_puts : (s : List ℕ) (at n : ℕ) → at < length s → set s at n ≡ put_at s at (n ∷ [])
unfolding put_at
set_puts s at n h = sets-eq (n ∷ []) s at (omega arith)

-- ---- numbers of one byte
pub byte_of : (n : ℕ) → n < 256 → bytes_of 1 n ≡ n ∷ []
unfolding bytes_of
byte_of n h = let e : n % 256 ≡ n = omega arith in rw e

pub put_byte : (s : List ℕ) (at n : ℕ) → n < 256 → at < length s → set s at n ≡ put_at s at (bytes_of 1 n)
put_byte s at n h i = rw (byte_of n h) (set_puts s at n i)

-- a number of one byte
pub byte_at : (s : List ℕ) (at : ℕ) → number_at 1 s at ≡ get_or s at 0
unfolding number_at
byte_at s at = omega arith

-- numbers of one byte are the bytes that stand there, read
pub bytes_at : (n : ℕ) (s : List ℕ) (at : ℕ) → at + n ≤ length s → numbers_at n 1 s at ≡ take n (drop at s)
unfolding numbers_at
bytes_at zero s at h = refl
bytes_at (suc n) s at h =
    let i : at < length s = omega arith in
    rw (byte_at s at, bytes_at n s (at + 1) (omega arith), drop-cons s at 0 i, add-one)

-- and put
pub bytes_each : (ns : List ℕ) → Below 256 ns → bytes_of_each 1 ns ≡ ns
unfolding bytes_of_each
bytes_each [] b = refl
bytes_each (n ∷ ns) b = rw (byte_of n (b 0), bytes_each ns (λ i. b (suc i)))

-- a loop that reads n numbers of k bytes from a place on into the list ys
module _ (n k : ℕ) (s : List ℕ) (at : ℕ) (ys : List ℕ) (long : length ys ≡ n) (i : ℕ) (xs : List ℕ) (e : xs ≡ filled i (numbers_at n k s at) ys) where
  -- a turn
  pub read_next : (v : ℕ) → i < n → v ≡ number_at k s (at + k * i) → set xs i v ≡ filled (i + 1) (numbers_at n k s at) ys
  read_next v h q =
      let l : i < length (numbers_at n k s at) = rw (numbers_length n k s at) h in
      ap (λ (zs : List ℕ). set zs i v) e ∙ filled_put i (numbers_at n k s at) ys v l (omega arith) (q ∙ sym (numbers_get n k s at i h))

  -- the end of the loop
  pub read_all : n ≤ i → xs ≡ numbers_at n k s at
  read_all h =
      let l : length (numbers_at n k s at) ≤ i = rw (numbers_length n k s at) h in
      e ∙ filled_all i (numbers_at n k s at) ys l (omega arith)
