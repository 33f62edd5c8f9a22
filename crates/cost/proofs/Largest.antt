-- The largest base before the clock of an indexed operand.
-- Assumes nothing.
use Rattle.std.proofs.Common.{ℕ, ◌≤◌, Bool, true, false, cond, ◌||◌, ℤ, arith, w32, SFits}
use Rattle.class_word.specs.Word.{has, clocks_of, VARIABLE, UNCLASSIFIED}
use Rattle.window.specs.Raw.{fallback_of}
use Rattle.window.proofs.RawLaws.{fallback_most}
use Rattle.cost.specs.Cost.{plain_of}

-- so an indexed operand's clock can be added
pub plain_most : (word : ℕ) (z : ℤ) → SFits w32 z → plain_of word z ≤ 536870911
unfolding plain_of
plain_most word z h = go (has word VARIABLE || has word UNCLASSIFIED)
  where
    go : (b : Bool) → cond b (fallback_of z) (clocks_of word) ≤ 536870911
    go true = fallback_most z h
    go false = omega arith
