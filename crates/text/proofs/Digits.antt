-- The decimal digits of a number: those of a tenth and then the last; and how many there are.
-- Assumes nothing.
use Prim.Native.Nat.{ℕ, zero, suc, ◌*◌, ◌/◌, ◌%◌, ◌^◌, ◌≤◌, ◌<◌}
use mathlib.Core.Path.{◌≡◌, refl, ap}
use mathlib.Core.Bool.{Bool, true, false, cond}
use mathlib.Core.List.{List, [], ◌∷◌, ◌++◌}
use native.Mathlib.Nat.{pow-suc}
use native.Mathlib.Omega.{arith}
use lib.Dec.{ltb}
use lib.ListN.{length, length-append}
use borrow.Author.Tests.{lt-ltb, le-ltb, ltb-true, ltb-false}
use Rattle.text.specs.Decimal.{digit, digits_in, decimal_of}

-- both ways of the test alike
alike : (t : Bool) (n : ℕ) (xs ys : List ℕ) → ltb n 10 ≡ t → (10 ≤ n → xs ≡ ys) → cond t (digit n ∷ []) xs ≡ cond t (digit n ∷ []) ys
alike true n xs ys e f = refl
alike false n xs ys e f = f (ltb-false n 10 e)

-- any number of digits that is large enough gives the same
enough : (f g n : ℕ) → n < f → n < g → digits_in f n ≡ digits_in g n
unfolding digits_in
enough zero g n a b = absurd (omega arith)
enough (suc f) zero n a b = absurd (omega arith)
enough (suc f) (suc g) n a b =
    alike (ltb n 10) n _ _ refl (λ h. ap (λ (ds : List ℕ). ds ++ digit (n % 10) ∷ []) (enough f g (n / 10) (omega arith) (omega arith)))

pub decimal_small : (n : ℕ) → n < 10 → decimal_of n ≡ digit n ∷ []
unfolding decimal_of digits_in
decimal_small n h = simp (lt-ltb n 10 h)

pub decimal_large : (n : ℕ) → 10 ≤ n → decimal_of n ≡ decimal_of (n / 10) ++ digit (n % 10) ∷ []
unfolding decimal_of digits_in
decimal_large n h = simp (le-ltb n 10 h) (rw (enough n (suc (n / 10)) (n / 10) (omega arith) (omega arith)))

-- one digit more
longer : (t : Bool) (n k : ℕ) → ltb n 10 ≡ t → (10 ≤ n → length (decimal_of (n / 10)) ≤ k) → length (decimal_of n) ≤ suc k
longer true n k e f = omega (arith, ap length (decimal_small n (ltb-true n 10 e)))
longer false n k e f =
    let large : 10 ≤ n = ltb-false n 10 e in
    omega (arith, ap length (decimal_large n large), length-append (decimal_of (n / 10)) (digit (n % 10) ∷ []), f large)

-- a number below 10^k has at most k digits
pub decimal_length : (k n : ℕ) → 1 ≤ k → n < 10 ^ k → length (decimal_of n) ≤ k
decimal_length zero n one h = absurd (omega arith)
decimal_length (suc zero) n one h = longer (ltb n 10) n 0 refl (λ large. absurd (omega arith))
decimal_length (suc (suc k)) n one h =
    let p : 10 ^ suc (suc k) ≡ 10 ^ suc k * 10 = pow-suc 10 (suc k) in
    longer (ltb n 10) n (suc k) refl (λ large. decimal_length (suc k) (n / 10) (omega arith) (omega arith))
