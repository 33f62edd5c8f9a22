-- The verdict on a record, by what holds of its bytes.
-- Assumes nothing.
use Prim.Native.Nat.{ℕ, ◌≤◌, ◌<◌}
use mathlib.Core.Path.{◌≡◌}
use mathlib.Core.Bool.{true, false}
use mathlib.Core.List.{List}
use lib.ListN.{length}
use borrow.Author.Tests.{lt-ltb, le-ltb, eq-eqb, ne_eqb}
use Rattle.std.specs.Prelude.{Err}
use Rattle.refusals.specs.Verdict.{accepted}
use Rattle.refusals.specs.declared.Refusal.TheVariants.{WrongLength, Cut, Flag}
use Rattle.records.specs.declared.kinds.Kind.{Kind}
use Rattle.records.specs.Kinds.{payload_length}
use Rattle.records.specs.Faults.{next_place, high_flag, fault_at}
use Rattle.records.specs.Layout.{length_at}

module _ (trace : List ℕ) (at : ℕ) (kind : Kind) where
  pub fault_length : (length_at trace at ≡ payload_length kind → ⊥) → fault_at trace at kind ≡ Err (WrongLength at)
  unfolding fault_at
  fault_length n = simp (ne_eqb _ _ n)

  module _ (right : length_at trace at ≡ payload_length kind) where
    pub fault_cut : length trace < next_place at kind → fault_at trace at kind ≡ Err (Cut at)
    unfolding fault_at
    fault_cut h = simp (eq-eqb _ _ right, lt-ltb _ _ h)

    module _ (whole : next_place at kind ≤ length trace) where
      pub fault_flag : high_flag trace at kind ≡ true → fault_at trace at kind ≡ Err (Flag at)
      unfolding fault_at
      fault_flag h = simp (eq-eqb _ _ right, le-ltb _ _ whole, h)

      pub fault_none : high_flag trace at kind ≡ false → fault_at trace at kind ≡ accepted
      unfolding fault_at
      fault_none h = simp (eq-eqb _ _ right, le-ltb _ _ whole, h)
