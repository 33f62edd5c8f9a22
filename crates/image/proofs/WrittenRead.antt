-- An image written and read back gives the state as it is read: each part is read where it was put.
use mathlib.Core.Path.{◌≡◌, sym, ap, ◌∙◌}
use mathlib.Core.Bool.{false}
use mathlib.Core.List.{List, ◌++◌, append_assoc}
use Prim.Native.Nat.{ℕ, ◌+◌, ◌*◌, ◌^◌}
use native.Mathlib.Omega.{arith}
use lib.ListN.{length, length-append}
use lib.Seq.{drop_at}
use Rattle.refusals.specs.Verdict.{accepted}
use Rattle.little_endian.specs.Numbers.{number_at, bytes_of, Below, bytes_of_each, numbers_at}
use Rattle.window.specs.Windows.{seen}
use Rattle.state.specs.declared.Oep060Timing.{Oep060Timing}
use Rattle.state.specs.Timing.{seen_of}
use Rattle.image.specs.Bytes.{header_bytes, window_bytes, head_bytes}
use Rattle.image.proofs.ImageBytesWriting.{header_length}
use Rattle.image.specs.Parts.{image_tags_of, image_slots_of}
use Rattle.image.specs.Wrong.{header_wrong}
use Rattle.image.specs.declared.ImageRead.{ImageRead}
use Rattle.image.specs.Image.{image_of, image_state_of, InRange}
use Rattle.image.specs.Entries.{image_verdict_of, image_read_of}
use Rattle.image.proofs.WindowBack.{Small, seen_small, window_back, window_right}
use Rattle.image.proofs.Refusals.{image_takes}
use Rattle.little_endian.proofs.Each.{each_length, numbers_drop, numbers_each}

-- numbers are read where they were put
numbers_back : (k : ℕ) (xs ns ys : List ℕ) (m n : ℕ) → length xs ≡ m → length ns ≡ n → Below (256 ^ k) ns
    → numbers_at n k (xs ++ bytes_of_each k ns ++ ys) (m + 0) ≡ ns
numbers_back k xs ns ys m n hm hn b =
    let e : xs ++ bytes_of_each k ns ++ ys ≡ xs ++ (bytes_of_each k ns ++ ys) = append_assoc xs (bytes_of_each k ns) ys in
    sym (numbers_drop n k (xs ++ bytes_of_each k ns ++ ys) m 0)
    ∙ rw (e, drop_at xs (bytes_of_each k ns ++ ys) m hm, ← hn) (numbers_each k ns ys b)

module _ (t : Oep060Timing) (r : InRange t) where
  abbrev front : List ℕ
  front = header_bytes ++ bytes_of_each 4 t.cache.tags ++ bytes_of_each 1 t.cache.state

  before_slots : length (header_bytes ++ bytes_of_each 4 t.cache.tags) ≡ 1028
  before_slots =
      let e : length (bytes_of_each 4 t.cache.tags) ≡ 1024 = each_length 4 t.cache.tags ∙ ap (λ (n : ℕ). 4 * n) r.tags.0 in
      omega (arith, length-append header_bytes (bytes_of_each 4 t.cache.tags), header_length)

  before_window : length front ≡ 1284
  before_window =
      let e : length (bytes_of_each 1 t.cache.state) ≡ 256 = each_length 1 t.cache.state ∙ ap (λ (n : ℕ). 1 * n) r.slots.0 in
      omega (arith, length-append (header_bytes ++ bytes_of_each 4 t.cache.tags) (bytes_of_each 1 t.cache.state), before_slots)

  small : Small t.window
  small = record { mask = r.mask; opcode = r.opcode; address = r.address }

  pub image_length_lem : length (image_of t) ≡ 1294
  unfolding image_of bytes_of
  image_length_lem =
      let w = seen t.window in
      length-append (front ++ window_bytes w) (head_bytes w) ∙ rw (length-append front (window_bytes w), before_window)

  header_right : header_wrong (image_of t) ≡ false
  unfolding image_of header_wrong number_at bytes_of
  header_right = rw image_length_lem

  image_accepted : image_verdict_of (image_of t) ≡ accepted
  unfolding image_of
  image_accepted =
      image_takes (image_of t) (rw image_length_lem) header_right (window_right front before_window t.window small)

  tags_back : image_tags_of (image_of t) ≡ t.cache.tags
  unfolding image_of
  tags_back =
      let w = seen t.window in
      rw (append_assoc front (window_bytes w) (head_bytes w), append_assoc (header_bytes ++ bytes_of_each 4 t.cache.tags) (bytes_of_each 1 t.cache.state) (window_bytes w ++ head_bytes w))
      (numbers_back 4 header_bytes t.cache.tags (bytes_of_each 1 t.cache.state ++ (window_bytes w ++ head_bytes w)) 4 256 header_length r.tags.0 r.tags.1)

  slots_back : image_slots_of (image_of t) ≡ t.cache.state
  unfolding image_of
  slots_back =
      let w = seen t.window in
      rw (append_assoc front (window_bytes w) (head_bytes w))
      (numbers_back 1 (header_bytes ++ bytes_of_each 4 t.cache.tags) t.cache.state (window_bytes w ++ head_bytes w) 1028 256 before_slots r.slots.0 r.slots.1)

  state_back : image_state_of (image_of t) ≡ seen_of t
  unfolding image_of
  state_back = rw (tags_back, slots_back, window_back front before_window (seen t.window) (seen_small t.window small))

  -- the round trip from a state
  pub image_read_back : ◌≡◌ {A = ImageRead} (image_read_of (image_of t)) (record { verdict = accepted; timing = seen_of t })
  image_read_back = rw (image_accepted, state_back)
