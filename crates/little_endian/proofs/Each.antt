-- Numbers in bytes, one behind the other, over any width: by induction on how many there are.
-- Assumes nothing.
use mathlib.Core.Path.{◌≡◌, sym, ap, ◌∙◌, refl}
use mathlib.Core.List.{List, [], ◌∷◌, ◌++◌, append_assoc, append-nil}
use Prim.Native.Nat.{ℕ, zero, suc, ◌+◌, ◌*◌, ◌<◌, ◌≤◌, ◌^◌}
use native.Mathlib.Nat.{add-zero, mul-zero, mul-suc, add_comm, not-suc-le-zero, le_of_suc-le-suc}
use native.Mathlib.Omega.{arith}
use lib.ListN.{length, get_or, take, length-append, drop}
use lib.Seq.{drop_at, drop-drop, take-add}
use Rattle.little_endian.specs.Numbers.{bytes_of, bytes_of_each, number_at, numbers_at, Below}
use Rattle.little_endian.proofs.Numbers.{bytes_length, number_drop, number_bytes, bytes_number}

-- one number more takes k bytes more
pub more : (k n : ℕ) → k * suc n ≡ k + k * n
more k n = mul-suc k n ∙ add_comm (k * n) k

pub each_length : (k : ℕ) (ns : List ℕ) → length (bytes_of_each k ns) ≡ k * length ns
unfolding bytes_of_each
each_length k [] = sym (mul-zero k)
each_length k (n ∷ ns) = length-append (bytes_of k n) (bytes_of_each k ns) ∙ rw (bytes_length k n, each_length k ns, more k (length ns))

pub each_more : (k : ℕ) (ns : List ℕ) (i : ℕ) → i < length ns → bytes_of_each k (take i ns) ++ bytes_of k (get_or ns i 0) ≡ bytes_of_each k (take (suc i) ns)
unfolding bytes_of_each
each_more k [] i h = absurd (not-suc-le-zero h)
each_more k (n ∷ ns) zero h = sym (append-nil (bytes_of k n))
each_more k (n ∷ ns) (suc i) h = append_assoc (bytes_of k n) (bytes_of_each k (take i ns)) (bytes_of k (get_or ns i 0)) ∙ rw (each_more k ns i (le_of_suc-le-suc h))

pub numbers_length : (n k : ℕ) (s : List ℕ) (at : ℕ) → length (numbers_at n k s at) ≡ n
unfolding numbers_at
numbers_length zero k s at = refl
numbers_length (suc n) k s at = ap suc (numbers_length n k s (at + k))

pub numbers_get : (n k : ℕ) (s : List ℕ) (at i : ℕ) → i < n → get_or (numbers_at n k s at) i 0 ≡ number_at k s (at + k * i)
unfolding numbers_at
numbers_get zero k s at i h = absurd (not-suc-le-zero h)
numbers_get (suc n) k s at zero h = ap (number_at k s) (sym (ap (λ (m : ℕ). at + m) (mul-zero k) ∙ add-zero at))
numbers_get (suc n) k s at (suc i) h =
    let e : at + k + k * i ≡ at + k * suc i = omega (arith, more k i) in
    numbers_get n k s (at + k) i (le_of_suc-le-suc h) ∙ ap (number_at k s) e

pub numbers_drop : (n k : ℕ) (s : List ℕ) (m at : ℕ) → numbers_at n k (drop m s) at ≡ numbers_at n k s (m + at)
unfolding numbers_at
numbers_drop zero k s m at = refl
numbers_drop (suc n) k s m at =
    let e : m + (at + k) ≡ m + at + k = omega arith in
    rw (number_drop k s m at, numbers_drop n k s m (at + k), e)

-- numbers put as bytes are read again, whatever follows them
pub numbers_each : (k : ℕ) (ns ys : List ℕ) → Below (256 ^ k) ns → numbers_at (length ns) k (bytes_of_each k ns ++ ys) 0 ≡ ns
unfolding numbers_at bytes_of_each
numbers_each k [] ys b = refl
numbers_each k (n ∷ ns) ys b =
    let rest : List ℕ = bytes_of_each k ns ++ ys in
    let e : k + 0 ≡ 0 + k = omega arith in
    let d : drop k (bytes_of k n ++ rest) ≡ rest = drop_at (bytes_of k n) rest k (bytes_length k n) in
    let t : numbers_at (length ns) k (bytes_of k n ++ rest) (0 + k) ≡ ns =
    ap (numbers_at (length ns) k (bytes_of k n ++ rest)) (sym e)
    ∙ sym (numbers_drop (length ns) k (bytes_of k n ++ rest) k 0)
    ∙ ap (λ (l : List ℕ). numbers_at (length ns) k l 0) d
    ∙ numbers_each k ns ys (λ i. b (suc i)) in
    rw (append_assoc (bytes_of k n) (bytes_of_each k ns) ys, number_bytes k n rest (b 0), t)

-- numbers read and put as bytes are the bytes that stand there
pub each_numbers : (n k : ℕ) (s : List ℕ) (at : ℕ) → Below 256 s → at + k * n ≤ length s
    → bytes_of_each k (numbers_at n k s at) ≡ take (k * n) (drop at s)
unfolding numbers_at bytes_of_each
each_numbers zero k s at b h = rw (mul-zero k)
each_numbers (suc n) k s at b h =
    let m : k * suc n ≡ k + k * n = more k n in
    rw (bytes_number k s at b (omega arith), each_numbers n k s (at + k) b (omega arith), m, take-add k (k * n) (drop at s), drop-drop k at s)
