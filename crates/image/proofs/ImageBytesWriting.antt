-- The parts of an image put one behind the other are the image put: each starts where those before it end.
use mathlib.Core.Path.{◌≡◌, refl, sym, ap, ◌∙◌}
use mathlib.Core.List.{List, ◌++◌, append-nil}
use Prim.Native.Nat.{ℕ, ◌+◌, ◌*◌, ◌<◌, ◌≤◌}
use native.Mathlib.Nat.{zero-add}
use native.Mathlib.Omega.{arith}
use lib.ListN.{length, set, length-append, length-set}
use Rattle.std.proofs.lemmas.List.{drop_all}
use Rattle.little_endian.specs.Numbers.{bytes_of, put_at, bytes_of_each}
use Rattle.little_endian.proofs.Numbers.{put_length, put_joins}
use Rattle.window.specs.declared.Window.{Window}
use Rattle.image.specs.Bytes.{header_bytes, window_bytes, head_bytes, image_bytes}
use Rattle.little_endian.proofs.Each.{each_length}
use Rattle.little_endian.proofs.Loops.{put_byte}

pub header_length : length header_bytes ≡ 4
unfolding bytes_of
header_length = refl

module _ (s : List ℕ) (room : 1294 ≤ length s) where
  pub header_put : put_at (put_at s 0 (bytes_of 2 1290)) 2 (bytes_of 2 17) ≡ put_at s 0 header_bytes
  unfolding bytes_of
  header_put = put_joins s 0 (bytes_of 2 1290) (omega arith) (bytes_of 2 17)

  pub window_length : (o d b : ℕ) → length (set (put_at (set s 1284 o) 1285 (bytes_of 2 d)) 1287 b) ≡ length s
  unfolding bytes_of
  window_length o d b =
      let long : length (set s 1284 o) ≡ length s = length-set s 1284 o in
      length-set (put_at (set s 1284 o) 1285 (bytes_of 2 d)) 1287 b ∙ put_length (set s 1284 o) 1285 (bytes_of 2 d) (omega arith) ∙ long

  -- open, def mask and bits
  pub window_put : (o d b : ℕ) → o < 256 → b < 256
      → set (put_at (set s 1284 o) 1285 (bytes_of 2 d)) 1287 b ≡ put_at s 1284 (bytes_of 1 o ++ bytes_of 2 d ++ bytes_of 1 b)
  unfolding bytes_of
  window_put o d b ho hb =
      let three : List ℕ = bytes_of 1 o ++ bytes_of 2 d in
      let long : length (put_at s 1284 three) ≡ length s = put_length s 1284 three (omega arith) in
      rw (put_byte s 1284 o ho (omega arith), put_joins s 1284 (bytes_of 1 o) (omega arith) (bytes_of 2 d))
      (put_byte (put_at s 1284 three) 1287 b hb (omega arith) ∙ put_joins s 1284 three (omega arith) (bytes_of 1 b))

  -- address and opcode
  pub head_put : (a o : ℕ) → put_at (put_at s 1288 (bytes_of 4 a)) 1292 (bytes_of 2 o) ≡ put_at s 1288 (bytes_of 4 a ++ bytes_of 2 o)
  unfolding bytes_of
  head_put a o = put_joins s 1288 (bytes_of 4 a) (omega arith) (bytes_of 2 o)

  -- bytes put behind those at the front
  behind : (n : ℕ) (bs cs : List ℕ) → length bs ≡ n → n ≤ 1294 → put_at (put_at s 0 bs) n cs ≡ put_at s 0 (bs ++ cs)
  behind n bs cs e h =
      let z : 0 + length bs ≡ n = zero-add (length bs) ∙ e in
      rw (← z) (put_joins s 0 bs (omega arith) cs)

  pub image_put : (tags slots w h : List ℕ) → length tags ≡ 256 → length slots ≡ 256 → length w ≡ 4
      → put_at (put_at (put_at (put_at (put_at s 0 header_bytes) 4 (bytes_of_each 4 tags)) 1028 (bytes_of_each 1 slots)) 1284 w) 1288 h
      ≡ put_at s 0 (header_bytes ++ bytes_of_each 4 tags ++ bytes_of_each 1 slots ++ w ++ h)
  image_put tags slots w h ht hs hw =
      let four : length header_bytes ≡ 4 = header_length in
      let t : length (bytes_of_each 4 tags) ≡ 1024 = each_length 4 tags ∙ ap (λ (n : ℕ). 4 * n) ht in
      let b : length (bytes_of_each 1 slots) ≡ 256 = each_length 1 slots ∙ ap (λ (n : ℕ). 1 * n) hs in
      let to1028 : length (header_bytes ++ bytes_of_each 4 tags) ≡ 1028 = omega (arith, length-append header_bytes (bytes_of_each 4 tags)) in
      let to1284 : length (header_bytes ++ bytes_of_each 4 tags ++ bytes_of_each 1 slots) ≡ 1284 = omega (arith, length-append (header_bytes ++ bytes_of_each 4 tags) (bytes_of_each 1 slots)) in
      let to1288 : length (header_bytes ++ bytes_of_each 4 tags ++ bytes_of_each 1 slots ++ w) ≡ 1288 = omega (arith, length-append (header_bytes ++ bytes_of_each 4 tags ++ bytes_of_each 1 slots) w) in
      rw (
        behind 4 header_bytes (bytes_of_each 4 tags) four (omega arith),
        behind 1028 (header_bytes ++ bytes_of_each 4 tags) (bytes_of_each 1 slots) to1028 (omega arith),
        behind 1284 (header_bytes ++ bytes_of_each 4 tags ++ bytes_of_each 1 slots) w to1284 (omega arith),
      )
      (behind 1288 (header_bytes ++ bytes_of_each 4 tags ++ bytes_of_each 1 slots ++ w) h to1288 (omega arith))

pub window_bytes_lem : (w : Window) → length (window_bytes w) ≡ 4
unfolding bytes_of
window_bytes_lem w = refl

-- an image has 1,294 bytes
pub image_size : (tags slots : List ℕ) (w : Window) → length tags ≡ 256 → length slots ≡ 256 → length (image_bytes tags slots w) ≡ 1294
unfolding bytes_of
image_size tags slots w ht hs =
    simp (length-append, each_length, ht, hs)

-- bytes put over as many leave those alone
pub put_over : (s bs : List ℕ) → length s ≡ length bs → put_at s 0 bs ≡ bs
unfolding put_at
put_over s bs e = rw (zero-add, ← e, drop_all (length s) s (omega arith)) (append-nil bs)

-- what the five parts leave
pub parts_put : (lent : List ℕ) → length lent ≡ 1294 → (tags slots : List ℕ) → length tags ≡ 256 → length slots ≡ 256
    → {a b c d e : List ℕ} {w v : Window} → w ≡ v → a ≡ put_at lent 0 header_bytes → b ≡ put_at a 4 (bytes_of_each 4 tags)
    → c ≡ put_at b 1028 (bytes_of_each 1 slots) → d ≡ put_at c 1284 (window_bytes w) → e ≡ put_at d 1288 (head_bytes w)
    → e ≡ image_bytes tags slots v
parts_put lent long tags slots ht hs {v = v} ew ea eb ec ed ee =
    rw (ee, ed, ec, eb, ea, ew) (image_put lent (omega arith) tags slots (window_bytes v) (head_bytes v) ht hs (window_bytes_lem v))
    ∙ put_over lent (image_bytes tags slots v) (long ∙ sym (image_size tags slots v ht hs))
