-- Tests of the numbers below a bound.
--
--   every_below n test   ==  the test holds of each number below n
--   first_from k n test  ==  the first of the n numbers from k on of which the test holds; k + n where it holds of none
--   first_below n test   ==  the first number below n of which the test holds; n where it holds of none
use Rattle.std.specs.Prelude.{ℕ, zero, suc, Bool, true, cond, ◌&&◌}

abbrev pub every_below : ℕ → (ℕ → Bool) → Bool
every_below zero test = true
every_below (suc n) test = every_below n test && test n

abbrev pub first_from : ℕ → ℕ → (ℕ → Bool) → ℕ
first_from k zero test = k
first_from k (suc n) test = cond (test k) k (first_from (suc k) n test)

abbrev pub first_below : ℕ → (ℕ → Bool) → ℕ
first_below n test = first_from 0 n test
