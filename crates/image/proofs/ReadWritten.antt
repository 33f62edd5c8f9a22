-- An accepted image read and written: each part is put as it stands, and a shut window has zeros. So one of kind 17 gives the same bytes, and one of kind 16 those of kind 17 with its own payload and a head of zeros.
use mathlib.Core.Path.{◌≡◌, refl, sym, ap, ◌∙◌}
use mathlib.Core.Bool.{Bool, true, false, not, ◌&&◌, ◌||◌, true≢false}
use mathlib.Core.List.{List, ◌++◌, append_assoc}
use Prim.Native.Nat.{ℕ, zero, suc, ◌+◌, ◌≤◌}
use native.Mathlib.Omega.{arith}
use lib.Dec.{eqb, ltb, leb}
use lib.ListN.{length, take, drop, replicate, length-drop}
use lib.Seq.{drop-drop, take-add, take_all}
use borrow.Author.Tests.{not-false, eqb-true, leb-false, lt-ltb}
use Rattle.refusals.specs.Verdict.{accepted}
use Rattle.bits.specs.Words.{bit}
use Rattle.bits.proofs.Bools.{and_left, and_right}
use Rattle.little_endian.specs.Numbers.{number_at, bytes_of, Below, bytes_of_each}
use Rattle.little_endian.proofs.Numbers.{bytes_number}
use Rattle.window.specs.declared.Window.{Window}
use Rattle.window.specs.Windows.{seen}
use Rattle.image.specs.Bytes.{bits_of, header_bytes, window_bytes, head_bytes}
use Rattle.image.specs.Parts.{image_tags_of, image_slots_of, open_at, def_mask_at, bits_at, has_head, address_at, opcode_at, image_window_of}
use Rattle.image.specs.Wrong.{header_wrong, window_wrong}
use Rattle.image.specs.Image.{image_of, image_state_of}
use Rattle.image.specs.Entries.{image_verdict_of}
use Rattle.image.proofs.Bits.{bits_all}
use Rattle.image.proofs.Refusals.{image_taken, long_enough}
use Rattle.little_endian.proofs.Each.{each_numbers}

or_left : (a b : Bool) → (a || b) ≡ false → a ≡ false
or_left true b h = h
or_left false b h = refl

or_right : (a b : Bool) → (a || b) ≡ false → b ≡ false
or_right true b h = cc
or_right false b h = h

-- the window of five numbers
abbrev window_by : ℕ → ℕ → ℕ → ℕ → ℕ → Window
window_by o d b a p =
    record { opened = eqb o 1; defs = d; ccr = bit 0 b; mem = bit 1 b; warm = bit 2 b; op = p; address = a }

abbrev Written : Window → ℕ → ℕ → ℕ → ℕ → ℕ → Type 0
Written w o d b a p = (window_bytes w ≡ bytes_of 1 o ++ bytes_of 2 d ++ bytes_of 1 b) × (head_bytes w ≡ bytes_of 4 a ++ bytes_of 2 p)

window_by_lem : (o d b a p : ℕ) → (ltb 1 o || leb 8 b || (eqb o 0 && not (eqb d 0 && eqb b 0 && eqb a 0 && eqb p 0))) ≡ false
    → Written (seen (window_by o d b a p)) o d b a p
unfolding bits_of
window_by_lem zero d b a p h =
    let dba : Bool = eqb d 0 && eqb b 0 && eqb a 0 in
    let all : (dba && eqb p 0) ≡ true = not-false (dba && eqb p 0) (or_right (leb 8 b) (not (dba && eqb p 0)) h) in
    let three : dba ≡ true = and_left dba (eqb p 0) all in
    let two : (eqb d 0 && eqb b 0) ≡ true = and_left (eqb d 0 && eqb b 0) (eqb a 0) three in
    let ed : d ≡ 0 = eqb-true d 0 (and_left (eqb d 0) (eqb b 0) two) in
    let eb : b ≡ 0 = eqb-true b 0 (and_right (eqb d 0) (eqb b 0) two) in
    let ea : a ≡ 0 = eqb-true a 0 (and_right (eqb d 0 && eqb b 0) (eqb a 0) three) in
    let ep : p ≡ 0 = eqb-true p 0 (and_right dba (eqb p 0) all) in
    (rw (ed, eb), rw (ea, ep))
window_by_lem (suc zero) d b a p h = (rw (bits_all b (leb-false 8 b (or_left (leb 8 b) false h))), refl)
window_by_lem (suc (suc n)) d b a p h =
    let e : ltb 1 (suc (suc n)) ≡ true = lt-ltb 1 (suc (suc n)) (omega arith) in
    absurd (true≢false (sym e ∙ or_left (ltb 1 (suc (suc n))) _ (or_left _ _ h)))

window_says : (s : List ℕ) → window_wrong s ≡ false
    → Written (seen (image_window_of s)) (open_at s) (def_mask_at s) (bits_at s) (address_at s) (opcode_at s)
unfolding image_window_of window_wrong
window_says s h = window_by_lem (open_at s) (def_mask_at s) (bits_at s) (address_at s) (opcode_at s) h

-- the old fields of an image are its parts, one behind the other
parts : (s : List ℕ)
    → take 1024 (drop 4 s) ++ take 256 (drop 1028 s) ++ (take 1 (drop 1284 s) ++ take 2 (drop 1285 s) ++ take 1 (drop 1287 s))
    ≡ take 1284 (drop 4 s)
parts s =
    let x : List ℕ = drop 4 s in
    let b : take 1024 x ++ take 256 (drop 1028 s) ≡ take 1280 x = rw (← drop-drop 1024 4 s) (sym (take-add 1024 256 x)) in
    let c : take 1280 x ++ take 1 (drop 1284 s) ≡ take 1281 x = rw (← drop-drop 1280 4 s) (sym (take-add 1280 1 x)) in
    let d : take 1281 x ++ take 2 (drop 1285 s) ≡ take 1283 x = rw (← drop-drop 1281 4 s) (sym (take-add 1281 2 x)) in
    let e : take 1283 x ++ take 1 (drop 1287 s) ≡ take 1284 x = rw (← drop-drop 1283 4 s) (sym (take-add 1283 1 x)) in
    rw (
      b,
      ← append_assoc (take 1280 x) (take 1 (drop 1284 s) ++ take 2 (drop 1285 s)) (take 1 (drop 1287 s)),
      ← append_assoc (take 1280 x) (take 1 (drop 1284 s)) (take 2 (drop 1285 s)),
      c,
      d,
      e,
    )

-- the parts between the header and the head are one
between : (h t s w d : List ℕ) → h ++ t ++ s ++ w ++ d ≡ h ++ (t ++ s ++ w) ++ d
between h t s w d = ap (λ (x : List ℕ). x ++ d) (ap (λ (x : List ℕ). x ++ w) (append_assoc h t s) ∙ append_assoc h (t ++ s) w)

module _ (s : List ℕ) (b : Below 256 s) (accepted : image_verdict_of s ≡ accepted) where
  number : (k at : ℕ) → at + k ≤ length s → bytes_of k (number_at k s at) ≡ take k (drop at s)
  number k at i = bytes_number k s at b i

  -- either kind: its own old fields, and its head's
  again : image_of (image_state_of s) ≡ header_bytes ++ take 1284 (drop 4 s) ++ (bytes_of 4 (address_at s) ++ bytes_of 2 (opcode_at s))
  unfolding image_of image_window_of
  again =
      let g = image_taken s accepted in
      let long : 1288 ≤ length s = long_enough s g.0 in
      let tags : bytes_of_each 4 (image_tags_of s) ≡ take 1024 (drop 4 s) = each_numbers 256 4 s 4 b (omega arith) in
      let slots : bytes_of_each 1 (image_slots_of s) ≡ take 256 (drop 1028 s) = each_numbers 256 1 s 1028 b (omega arith) in
      let w = window_says s g.2 in
      let window : window_bytes (seen (image_window_of s)) ≡ take 1 (drop 1284 s) ++ take 2 (drop 1285 s) ++ take 1 (drop 1287 s) =
      w.0 ∙ rw (number 1 1284 (omega arith), number 2 1285 (omega arith), number 1 1287 (omega arith)) in
      rw (tags, slots, window, w.1, between header_bytes (take 1024 (drop 4 s)) (take 256 (drop 1028 s)) (take 1 (drop 1284 s) ++ take 2 (drop 1285 s) ++ take 1 (drop 1287 s)) (bytes_of 4 (address_at s) ++ bytes_of 2 (opcode_at s)), parts s)

  -- kind 16: the header is kind 17's, and the head zeros
  pub image_renewed : length s ≡ 1288 → image_of (image_state_of s) ≡ header_bytes ++ drop 4 s ++ replicate 6 0
  unfolding bytes_of
  image_renewed long =
      let old : has_head s ≡ false = rw long in
      let all : take 1284 (drop 4 s) ≡ drop 4 s = take_all 1284 (drop 4 s) (omega (arith, length-drop 4 s)) in
      again ∙ rw (old, all)

  header_says : has_head s ≡ true → header_wrong s ≡ false → (number_at 2 s 0 ≡ 1290) × (number_at 2 s 2 ≡ 17)
  unfolding header_wrong
  header_says new h =
      let p : Bool = eqb (number_at 2 s 0) 1290 in
      let q : Bool = eqb (number_at 2 s 2) 17 in
      let e : (p && q) ≡ true = not-false (p && q) (rw new at h) in
      (eqb-true (number_at 2 s 0) 1290 (and_left p q e), eqb-true (number_at 2 s 2) 17 (and_right p q e))

  -- kind 17: the round trip from an accepted image
  pub image_written_again : length s ≡ 1294 → image_of (image_state_of s) ≡ s
  image_written_again long =
      let new : has_head s ≡ true = rw long in
      let h = header_says new (image_taken s accepted).1 in
      let header : header_bytes ≡ take 4 s = rw (← h.0, ← h.1, number 2 0 (omega arith), number 2 2 (omega arith)) (sym (take-add 2 2 s)) in
      let front : take 4 s ++ take 1284 (drop 4 s) ≡ take 1288 s = sym (take-add 4 1284 s) in
      let address : take 1288 s ++ take 4 (drop 1288 s) ≡ take 1292 s = sym (take-add 1288 4 s) in
      let opcode : take 1292 s ++ take 2 (drop 1292 s) ≡ take 1294 s = sym (take-add 1292 2 s) in
      again
      ∙ rw (
        new,
        number 4 1288 (omega arith),
        number 2 1292 (omega arith),
        header,
        front,
        ← append_assoc (take 1288 s) (take 4 (drop 1288 s)) (take 2 (drop 1292 s)),
        address,
        opcode,
      )
      (take_all 1294 s (omega arith))
