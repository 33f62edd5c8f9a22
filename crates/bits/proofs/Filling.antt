-- A loop that stores the elements of one list into another, from the front: after i turns the list is `filled i xs ys`.
-- Assumes nothing.
use mathlib.Core.Path.{◌≡◌, refl, sym, ap, ◌∙◌}
use mathlib.Core.List.{List, [], ◌∷◌, ◌++◌, append-nil}
use Prim.Native.Nat.{ℕ, zero, suc, ◌+◌, ◌<◌, ◌≤◌}
use native.Mathlib.Nat.{not-suc-le-zero, le_of_suc-le-suc}
use native.Mathlib.Numerals.{add-one}
use lib.ListN.{length, get_or, set, take, drop, drop_of_length-le}
use lib.Seq.{set-get_or, take_all}

-- the first i elements of xs, and the rest of ys
abbrev pub filled : ℕ → List ℕ → List ℕ → List ℕ
filled i xs ys = take i xs ++ drop i ys

-- the element that the next turn reads
pub filled_at : (i : ℕ) (xs ys : List ℕ) → i < length xs → i < length ys → get_or (filled i xs ys) i 0 ≡ get_or ys i 0
filled_at i [] ys h g = absurd (not-suc-le-zero h)
filled_at i (x ∷ xs) [] h g = absurd (not-suc-le-zero g)
filled_at zero (x ∷ xs) (y ∷ ys) h g = refl
filled_at (suc i) (x ∷ xs) (y ∷ ys) h g = filled_at i xs ys (le_of_suc-le-suc h) (le_of_suc-le-suc g)

next : (i : ℕ) (xs ys : List ℕ) → i < length xs → i < length ys → set (filled i xs ys) i (get_or xs i 0) ≡ filled (suc i) xs ys
next i [] ys h g = absurd (not-suc-le-zero h)
next i (x ∷ xs) [] h g = absurd (not-suc-le-zero g)
next zero (x ∷ xs) (y ∷ ys) h g = refl
next (suc i) (x ∷ xs) (y ∷ ys) h g = ap (λ (t : List ℕ). x ∷ t) (next i xs ys (le_of_suc-le-suc h) (le_of_suc-le-suc g))

-- a turn that stores
pub filled_put : (i : ℕ) (xs ys : List ℕ) (v : ℕ) → i < length xs → i < length ys → v ≡ get_or xs i 0 → set (filled i xs ys) i v ≡ filled (i + 1) xs ys
filled_put i xs ys v h g e = rw (e, add-one) (next i xs ys h g)

-- a turn that stores nothing, where the two lists have the same element
pub filled_kept : (i : ℕ) (xs ys : List ℕ) → i < length xs → i < length ys → get_or ys i 0 ≡ get_or xs i 0 → filled i xs ys ≡ filled (i + 1) xs ys
filled_kept i xs ys h g e =
    sym (set-get_or (filled i xs ys) i 0) ∙ ap (set (filled i xs ys) i) (filled_at i xs ys h g) ∙ filled_put i xs ys (get_or ys i 0) h g e

-- the end of the loop
pub filled_all : (i : ℕ) (xs ys : List ℕ) → length xs ≤ i → length ys ≤ i → filled i xs ys ≡ xs
filled_all i xs ys h g = rw (take_all i xs h, drop_of_length-le ys g) (append-nil xs)
