-- Texts of numbers, one behind the other.
--
--   each_from k n text  ==  the texts of the n numbers from k on
use Rattle.std.specs.Prelude.{ℕ, zero, suc, List, [], ◌++◌}

unfoldable pub each_from : ℕ → ℕ → (ℕ → List ℕ) → List ℕ
each_from k zero text = []
each_from k (suc n) text = text k ++ each_from (suc k) n text
