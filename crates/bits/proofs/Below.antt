-- A test that passes over all numbers below a bound passes at each of them, and the other way round; and the first number that passes is the one before which none does.
-- Assumes nothing.
use mathlib.Core.Path.{◌≡◌, refl, sym, ap, ◌∙◌}
use mathlib.Core.Logic.{⊎_elim}
use mathlib.Core.Bool.{Bool, true, false, cond}
use Prim.Native.Nat.{ℕ, zero, suc, ◌+◌, ◌-◌, ◌<◌, ◌≤◌}
use native.Mathlib.Nat.{not-suc-le-zero, eq-or-lt_of_le}
use native.Mathlib.Omega.{arith}
use Rattle.bits.specs.Below.{every_below, first_from, first_below}
use Rattle.bits.proofs.Bools.{and_left, and_right}

pub each_below : (n : ℕ) (test : ℕ → Bool) → every_below n test ≡ true → (k : ℕ) → k < n → test k ≡ true
each_below zero test t k h = absurd (not-suc-le-zero h)
each_below (suc n) test t k h =
    ⊎_elim (λ (e : k ≡ n). ap test e ∙ and_right (every_below n test) (test n) t)
    (λ (l : k < n). each_below n test (and_left (every_below n test) (test n) t) k l) (eq-or-lt_of_le (omega arith))

-- the same of the numbers from a first one on
pub each_between : (base n : ℕ) (test : ℕ → Bool) → every_below n (λ k. test (base + k)) ≡ true → (x : ℕ) → base ≤ x → x < base + n → test x ≡ true
each_between base n test t x l h =
    let at : base + (x - base) ≡ x = omega arith in
    sym (ap test at) ∙ each_below n (λ k. test (base + k)) t (x - base) (omega arith)

pub every_below_lem : (n : ℕ) (test : ℕ → Bool) → ((k : ℕ) → k < n → test k ≡ true) → every_below n test ≡ true
every_below_lem zero test h = refl
every_below_lem (suc n) test h = rw (every_below_lem n test (λ k l. h k (omega arith)), h n (omega arith))

first_from_lem : (k n : ℕ) (test : ℕ → Bool) (r : ℕ) → k ≤ r → r < k + n → test r ≡ true → ((q : ℕ) → q < r → test q ≡ false) → first_from k n test ≡ r
first_from_lem k zero test r l h t none = absurd (omega arith)
first_from_lem k (suc n) test r l h t none =
    ⊎_elim (λ (e : k ≡ r). ap (λ (b : Bool). cond b k (first_from (suc k) n test)) (ap test e ∙ t) ∙ e)
    (λ (m : k < r). ap (λ (b : Bool). cond b k (first_from (suc k) n test)) (none k m) ∙ first_from_lem (suc k) n test r (omega arith) (omega arith) t none)
    (eq-or-lt_of_le l)

-- a number that passes, and none before it does, is the first
pub first_is : (n : ℕ) (test : ℕ → Bool) (r : ℕ) → r < n → test r ≡ true → ((q : ℕ) → q < r → test q ≡ false) → first_below n test ≡ r
first_is n test r h t none = first_from_lem 0 n test r (omega arith) (omega arith) t none

found_on : (k n : ℕ) (test : ℕ → Bool) → (first_from (suc k) n test < suc k + n → test (first_from (suc k) n test) ≡ true)
    → (b : Bool) → test k ≡ b → first_from k (suc n) test < k + suc n → test (first_from k (suc n) test) ≡ true
found_on k n test later true e h = ap test (ap (λ (b : Bool). cond b k (first_from (suc k) n test)) e) ∙ e
found_on k n test later false e h =
    let rest : first_from k (suc n) test ≡ first_from (suc k) n test = ap (λ (b : Bool). cond b k (first_from (suc k) n test)) e in
    ap test rest ∙ later (omega (arith, rest))

found : (k n : ℕ) (test : ℕ → Bool) → first_from k n test < k + n → test (first_from k n test) ≡ true
found k zero test h = absurd (omega arith)
found k (suc n) test h = found_on k n test (found (suc k) n test) (test k) refl h

-- the first below the bound passes
pub first_passes : (n : ℕ) (test : ℕ → Bool) → first_below n test < n → test (first_below n test) ≡ true
first_passes n test h = found 0 n test (omega arith)

most : (k n : ℕ) (test : ℕ → Bool) → first_from k n test ≤ k + n
most k zero test = omega arith
most k (suc n) test = go (test k) (most (suc k) n test)
  where
    go : (b : Bool) → first_from (suc k) n test ≤ suc k + n → cond b k (first_from (suc k) n test) ≤ k + suc n
    go true h = omega arith
    go false h = omega arith

pub first_most : (n : ℕ) (test : ℕ → Bool) → first_below n test ≤ n
first_most n test = let h : first_from 0 n test ≤ 0 + n = most 0 n test in omega arith
