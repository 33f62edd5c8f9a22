-- A loop that writes the texts of numbers one behind the other: one text more, and room for it.
-- Assumes nothing.
use Prim.Native.Nat.{ℕ, zero, suc, ◌+◌, ◌*◌, ◌≤◌, ◌<◌}
use mathlib.Core.Path.{◌≡◌, refl, sym, ap, ◌∙◌}
use mathlib.Core.List.{List, [], ◌++◌, append_assoc, append-nil}
use native.Mathlib.Nat.{add-zero}
use native.Mathlib.Omega.{arith}
use native.Mathlib.Numerals.{add-one}
use lib.ListN.{length, length-append}
use mathlib.Core.Logic.{◌⊎◌, inl, inr}
use Rattle.std.proofs.lemmas.Bool.{cases_lt}
use Rattle.text.specs.Written.{written, written_of}
use Rattle.text.proofs.Writing.{Wrote, wrote, wrote_more, wrote_whole}
use Rattle.text.proofs.Behind.{behind}
use Rattle.rule_text.specs.Each.{each_from}

-- the last of them stands behind the others
last : (text : ℕ → List ℕ) (k n : ℕ) → each_from k (suc n) text ≡ each_from k n text ++ text (k + n)
unfolding each_from
last text k zero = rw (add-zero k, append-nil)
last text k (suc n) =
    let e : suc k + n ≡ k + suc n = omega arith in
    ap (λ (l : List ℕ). text k ++ l) (rw e at (last text (suc k) n))
    ∙ sym (append_assoc (text k) (each_from (suc k) n text) (text (k + suc n)))

pub each_none : (text : ℕ → List ℕ) → each_from 0 0 text ≡ []
unfolding each_from
each_none text = refl

pub each_more : (text : ℕ → List ℕ) (k : ℕ) → each_from 0 (k + 1) text ≡ each_from 0 k text ++ text k
each_more text k = let e : 0 + k ≡ k = omega arith in rw add-one (rw e at (last text 0 k))

pub ruleset each = (behind, each_none, each_more)

-- those of the lower numbers leave room for the next
fits : (text : ℕ → List ℕ) (k n : ℕ) → k < n → length (each_from 0 k text) + length (text k) ≤ length (each_from 0 n text)
fits text k zero h = absurd (omega arith)
fits text k (suc n) h =
    let e : each_from 0 (suc n) text ≡ each_from 0 n text ++ text n = rw (← add-one) (each_more text n) in
    go e (cases_lt k n) (fits text k n)
  where
    go : each_from 0 (suc n) text ≡ each_from 0 n text ++ text n → (k < n) ⊎ (n ≤ k)
        → (k < n → length (each_from 0 k text) + length (text k) ≤ length (each_from 0 n text))
        → length (each_from 0 k text) + length (text k) ≤ length (each_from 0 (suc n) text)
    go e (inl l) f = omega (arith, f l, ap length e, length-append (each_from 0 n text) (text n))
    go e (inr m) f = let q : n ≡ k = omega arith in rw (← q) (omega (arith, ap length e, length-append (each_from 0 n text) (text n)))

-- room for the next, and the next behind them
module _ (text : ℕ → List ℕ) (n k start : ℕ) (lent : List ℕ) {place : ℕ} {out : List ℕ}
    (e : written place out ≡ written_of lent start (each_from 0 k text)) (h : k < n)
    (room : start + length (each_from 0 n text) ≤ length lent) where
  so_far : Wrote lent start (each_from 0 k text) place out
  so_far = wrote lent start (each_from 0 k text) (omega (arith, fits text k n h, room)) e

  pub each_room : place + length (text k) ≤ length out
  each_room = let w = so_far in omega (arith, w.place, w.same, fits text k n h, room)

  pub each_on : {place' : ℕ} {out' : List ℕ} → written place' out' ≡ written_of out place (text k)
      → written place' out' ≡ written_of lent start (each_from 0 (k + 1) text)
  each_on f =
      let w = so_far in
      rw (each_more text k) (wrote_whole (wrote_more w (text k) (omega (arith, w.place, fits text k n h, room)) f))

-- texts that each have at most so many characters
pub each_most : (text : ℕ → List ℕ) (most : ℕ) (k n : ℕ) → ((i : ℕ) → i < k + n → length (text i) ≤ most) → length (each_from k n text) ≤ most * n
unfolding each_from
each_most text most k zero h = omega arith
each_most text most k (suc n) h =
    let m : most * suc n ≡ most * n + most = omega arith in
    let r : length (each_from (suc k) n text) ≤ most * n = each_most text most (suc k) n (λ i l. h i (omega arith)) in
    let t : length (text k) ≤ most = h k (omega arith) in
    omega (arith, length-append (text k) (each_from (suc k) n text))
