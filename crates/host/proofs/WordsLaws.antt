-- The words of a batch: the retirement of four of them, how many retirements they stand for, the next of them, and that fewer than four words stand for none.
-- Assumes nothing.
use mathlib.Core.Path.{◌≡◌, refl}
use mathlib.Core.List.{List, [], ◌∷◌}
use Prim.Native.Nat.{ℕ, suc, ◌+◌, ◌*◌, ◌/◌, ◌%◌, ◌<◌, ◌≤◌}
use native.Mathlib.Omega.{arith}
use lib.ListN.{length, get_or, drop}
use lib.IntN.{ℤ}
use lib.Seq.{drop-cons}
use Rattle.little_endian.specs.Signed.{signed_of}
use Rattle.host.specs.HostWords.{words_of, words_at, retirements_of}
use Rattle.state.specs.Flags.{retirement_of}
use Rattle.window.specs.Raw.{raw_count}

pub record_is : (ws : List ℕ) (i : ℕ) {head ppc pc raw op flags : ℕ} {z : ℤ} → op ≡ head % 65536 → flags ≡ head / 65536 → head ≡ get_or ws (4 * i) 0 → ppc ≡ get_or ws (4 * i + 1) 0 → pc ≡ get_or ws (4 * i + 2) 0
    → raw ≡ get_or ws (4 * i + 3) 0 → z ≡ signed_of raw → retirement_of op flags ppc pc (raw_count z) ≡ words_at ws i
record_is ws i o s e f g h k = rw (o, s, e, f, g, k, h)

pub words_count : (ws : List ℕ) → length (retirements_of ws) ≡ length ws / 4
unfolding retirements_of
words_count (head ∷ ppc ∷ pc ∷ raw ∷ ws) = omega (arith, words_count ws)
words_count (head ∷ ppc ∷ pc ∷ []) = refl
words_count (head ∷ ppc ∷ []) = refl
words_count (head ∷ []) = refl
words_count [] = refl

pub words_none : (ws : List ℕ) → length ws < 4 → retirements_of ws ≡ []
unfolding retirements_of
words_none (head ∷ ppc ∷ pc ∷ raw ∷ ws) h = absurd (omega arith)
words_none (head ∷ ppc ∷ pc ∷ []) h = refl
words_none (head ∷ ppc ∷ []) h = refl
words_none (head ∷ []) h = refl
words_none [] h = refl

pub words_next : (ws : List ℕ) (n : ℕ) → n + 4 ≤ length ws
    → retirements_of (drop n ws) ≡ words_of (get_or ws n 0) (get_or ws (n + 1) 0) (get_or ws (n + 2) 0) (get_or ws (n + 3) 0) ∷ retirements_of (drop (n + 4) ws)
unfolding retirements_of
words_next ws n h =
    let e1 : n + 1 ≡ suc n = omega arith in
    let e2 : n + 2 ≡ suc (suc n) = omega arith in
    let e3 : n + 3 ≡ suc (suc (suc n)) = omega arith in
    let e4 : n + 4 ≡ suc (suc (suc (suc n))) = omega arith in
    let h0 : n < length ws = omega arith in
    let h1 : suc n < length ws = omega arith in
    let h2 : suc (suc n) < length ws = omega arith in
    let h3 : suc (suc (suc n)) < length ws = omega arith in
    rw (e1, e2, e3, e4, drop-cons ws n 0 h0, drop-cons ws (suc n) 0 h1, drop-cons ws (suc (suc n)) 0 h2, drop-cons ws (suc (suc (suc n))) 0 h3)
