-- Numbers read and put at a place, over any width: by induction on the width.
-- Assumes nothing.
use mathlib.Core.Path.{◌≡◌, refl, sym, ap, ◌∙◌}
use mathlib.Core.List.{List, ◌∷◌, ◌++◌, append_assoc}
use Prim.Native.Nat.{ℕ, zero, suc, ◌+◌, ◌-◌, ◌*◌, ◌/◌, ◌%◌, ◌^◌, ◌<◌, ◌≤◌}
use native.Mathlib.Nat.{pow-suc, add-zero}
use native.Mathlib.Numerals.{add-one}
use native.Mathlib.Omega.{arith}
use lib.ListN.{length, get_or, take, drop, length-append, length-drop, take-append-drop, get_or-append}
use lib.Seq.{length-take-le, drop-append_seam, drop-drop, drop-cons, get_or-drop, get_or-take, take-add, take_at, drop_at}
use borrow.Rule.Slice.PartMut.{put_mid}
use Rattle.little_endian.specs.Numbers.{number_at, bytes_of, put_at, Below}

-- the number at a place of what is left of a list
pub number_drop : (k : ℕ) (s : List ℕ) (m at : ℕ) → number_at k (drop m s) at ≡ number_at k s (m + at)
unfolding number_at
number_drop zero s m at = refl
number_drop (suc k) s m at =
    let e : m + (at + 1) ≡ m + at + 1 = omega arith in
    rw (get_or-drop m s at 0, number_drop k s m (at + 1), e)

pub number_tail : (k b : ℕ) (s : List ℕ) (at : ℕ) → number_at k (b ∷ s) (at + 1) ≡ number_at k s at
number_tail k b s at =
    let e : at + 1 ≡ 1 + at = omega arith in
    ap (number_at k (b ∷ s)) e ∙ sym (number_drop k (b ∷ s) 1 at)

-- the number behind a list
pub number_behind : (k : ℕ) (xs ys : List ℕ) (at : ℕ) → number_at k (xs ++ ys) (length xs + at) ≡ number_at k ys at
number_behind k xs ys at = sym (number_drop k (xs ++ ys) (length xs) at) ∙ rw (drop-append_seam xs ys)

pub bytes_length : (k n : ℕ) → length (bytes_of k n) ≡ k
unfolding bytes_of
bytes_length zero n = refl
bytes_length (suc k) n = ap suc (bytes_length k (n / 256))

-- the number of a number's bytes, whatever follows them
pub number_bytes : (k n : ℕ) (ys : List ℕ) → n < 256 ^ k → number_at k (bytes_of k n ++ ys) 0 ≡ n
unfolding number_at bytes_of
number_bytes zero n ys h = omega arith
number_bytes (suc k) n ys h =
    let p : 256 ^ suc k ≡ 256 ^ k * 256 = pow-suc 256 k in
    let l : n / 256 < 256 ^ k = omega arith in
    let t = number_tail k (n % 256) (bytes_of k (n / 256) ++ ys) 0 ∙ number_bytes k (n / 256) ys l in
    rw t (omega arith)

-- the bytes of the number at a place are those that stand there
pub bytes_number : (k : ℕ) (s : List ℕ) (at : ℕ) → Below 256 s → at + k ≤ length s → bytes_of k (number_at k s at) ≡ take k (drop at s)
unfolding number_at bytes_of
bytes_number zero s at b h = refl
bytes_number (suc k) s at b h =
    let x : ℕ = get_or s at 0 in
    let y : ℕ = number_at k s (at + 1) in
    let l : x < 256 = b at in
    let low : (x + 256 * y) % 256 ≡ x = omega arith in
    let high : (x + 256 * y) / 256 ≡ y = omega arith in
    let i : at < length s = omega arith in
    rw (low, high, bytes_number k s (at + 1) b (omega arith), drop-cons s at 0 i, add-one)

pub number_small : (k : ℕ) (s : List ℕ) (at : ℕ) → Below 256 s → number_at k s at < 256 ^ k
unfolding number_at
number_small zero s at b = omega arith
number_small (suc k) s at b =
    let p : 256 ^ suc k ≡ 256 ^ k * 256 = pow-suc 256 k in
    omega (arith, b at, number_small k s (at + 1) b)

-- ---- bytes put at a place
module _ (s : List ℕ) (at : ℕ) (bs : List ℕ) (room : at + length bs ≤ length s) where
  front : length (take at s ++ bs) ≡ at + length bs
  front = length-append (take at s) bs ∙ ap (λ (n : ℕ). n + length bs) (length-take-le at s (omega arith))

  pub put_length : length (put_at s at bs) ≡ length s
  unfolding put_at
  put_length = omega (arith, length-append (take at s ++ bs) (drop (at + length bs) s), front, length-drop (at + length bs) s)

  pub put_before : (i : ℕ) → i < at → get_or (put_at s at bs) i 0 ≡ get_or s i 0
  unfolding put_at
  put_before i h =
      let l : length (take at s) ≡ at = length-take-le at s (omega arith) in
      get_or-append (take at s ++ bs) (drop (at + length bs) s) 0 i (omega (arith, front))
      ∙ get_or-append (take at s) bs 0 i (omega arith)
      ∙ get_or-take at s i 0 h

  -- what follows the bytes
  pub put_beyond : drop (at + length bs) (put_at s at bs) ≡ drop (at + length bs) s
  unfolding put_at
  put_beyond = drop_at (take at s ++ bs) (drop (at + length bs) s) (at + length bs) front

  pub put_after : (i : ℕ) → get_or (put_at s at bs) (at + length bs + i) 0 ≡ get_or s (at + length bs + i) 0
  put_after i =
      sym (get_or-drop (at + length bs) (put_at s at bs) i 0)
      ∙ ap (λ (l : List ℕ). get_or l i 0) put_beyond
      ∙ get_or-drop (at + length bs) s i 0

  -- the bytes themselves, and what follows
  pub put_from : drop at (put_at s at bs) ≡ bs ++ drop (at + length bs) s
  unfolding put_at
  put_from =
      let l : length (take at s) ≡ at = length-take-le at s (omega arith) in
      rw append_assoc (drop_at (take at s) (bs ++ drop (at + length bs) s) at l)

  -- bytes put behind bytes
  pub put_joins : (cs : List ℕ) → put_at (put_at s at bs) (at + length bs) cs ≡ put_at s at (bs ++ cs)
  unfolding put_at
  put_joins cs =
      let t : List ℕ = take at s ++ bs in
      let u : List ℕ = drop (at + length bs) s in
      let n : at + length (bs ++ cs) ≡ at + length bs + length cs = omega (arith, length-append bs cs) in
      let d : drop (at + length bs + length cs) (t ++ u) ≡ drop (at + length bs + length cs) s =
      sym (drop-drop (length cs) (at + length bs) (t ++ u))
      ∙ ap (drop (length cs)) (drop_at t u (at + length bs) front)
      ∙ drop-drop (length cs) (at + length bs) s in
      rw (take_at t u (at + length bs) front, d, n) (simp append_assoc)

-- a copy into s[at..at + k] puts the bytes there
pub copy_puts : (s : List ℕ) (at k : ℕ) (bs new : List ℕ) → new ≡ bs → length bs ≡ k → put_mid at (at + k - at) s new ≡ put_at s at bs
unfolding put_at
copy_puts s at k bs new e h =
    let n : at + k - at ≡ length bs = omega arith in
    rw (e, n, drop-drop (length bs) at s) (sym (append_assoc (take at s) bs (drop (at + length bs) s)))

-- a number put at a place is read there
pub number_put : (k n : ℕ) (s : List ℕ) (at : ℕ) → n < 256 ^ k → at + k ≤ length s → number_at k (put_at s at (bytes_of k n)) at ≡ n
number_put k n s at small h =
    let room : at + length (bytes_of k n) ≤ length s = rw (bytes_length k n) h in
    let z = number_drop k (put_at s at (bytes_of k n)) at 0 in
    sym (rw (add-zero at) at z)
    ∙ rw (put_from s at (bytes_of k n) room) (number_bytes k n (drop (at + length (bytes_of k n)) s) small)

-- a number put where it was read changes nothing
pub put_number : (k : ℕ) (s : List ℕ) (at : ℕ) → Below 256 s → at + k ≤ length s → put_at s at (bytes_of k (number_at k s at)) ≡ s
unfolding put_at
put_number k s at b h =
    rw (bytes_length k (number_at k s at), bytes_number k s at b h, ← take-add at k s) (take-append-drop (at + k) s)

-- ---- a number of four bytes is two of two bytes
pub number_halves : (s : List ℕ) (at : ℕ) → number_at 4 s at ≡ number_at 2 s at + number_at 2 s (at + 2) * 65536
unfolding number_at
number_halves s at =
    let e : at + 2 ≡ at + 1 + 1 = omega arith in
    rw e (omega arith)
