-- The kind of a number is the one that has it, and a number that is none of 1 to 4 has no kind.
-- Assumes nothing.
use Prim.Native.Nat.{ℕ, ◌≤◌}
use mathlib.Core.Path.{◌≡◌, ap}
use native.Mathlib.Omega.{arith}
use lib.Dec.{eqb}
use borrow.Author.Tests.{eqb-true, eqb-false, ne_eqb}
use Rattle.std.specs.Prelude.{Result, Ok, Err}
use Rattle.records.specs.declared.kinds.UnknownKind.{UnknownKind}
use Rattle.records.specs.declared.kinds.Kind.{Kind}
use Rattle.records.specs.declared.kinds.Kind.TheVariants.{Retirement, Break, ClearAll, ClearUser}
use Rattle.records.specs.Kinds.{kind_number, kind_of}
use Rattle.records.proofs.Choices.{by_test}

-- what a kind that was read says of its number
abbrev pub Says : ℕ → Result Kind UnknownKind → Type 0
Says n (Ok kind) = n ≡ kind_number kind
Says n (Err none) = (1 ≤ n) × (n ≤ 4) → ⊥

pub kind_says : (n : ℕ) → Says n (kind_of n)
unfolding kind_of
kind_says n =
    by_test (Says n) (eqb n 1) _ _ (eqb-true n 1)
    (λ a. by_test (Says n) (eqb n 2) _ _ (eqb-true n 2)
    (λ b. by_test (Says n) (eqb n 3) _ _ (eqb-true n 3)
    (λ c. by_test (Says n) (eqb n 4) _ _ (eqb-true n 4)
    (λ d h. omega (arith, eqb-false n 1 a, eqb-false n 2 b, eqb-false n 3 c, eqb-false n 4 d)))))

-- each kind is found by its number
pub kind_found : (kind : Kind) {n : ℕ} → n ≡ kind_number kind → kind_of n ≡ Ok kind
unfolding kind_of
kind_found Retirement e = ap kind_of e
kind_found Break e = ap kind_of e
kind_found ClearAll e = ap kind_of e
kind_found ClearUser e = ap kind_of e

-- and no other number
pub kind_missing : (n : ℕ) → ((1 ≤ n) × (n ≤ 4) → ⊥) → kind_of n ≡ Err (record {})
unfolding kind_of
kind_missing n h =
    simp (
      ne_eqb n 1 (λ e. h (omega arith, omega arith)),
      ne_eqb n 2 (λ e. h (omega arith, omega arith)),
      ne_eqb n 3 (λ e. h (omega arith, omega arith)),
      ne_eqb n 4 (λ e. h (omega arith, omega arith)),
    )
