-- What document 01 says of a miss, as laws of a slot on plain values.
-- Assumes nothing.
use mathlib.Core.Path.{◌≡◌}
use mathlib.Core.Bool.{Bool, false}
use Prim.Native.Nat.{ℕ}
use Rattle.branch_cache.specs.declared.slot.Slot.{Slot}
use Rattle.std.specs.Prelude.{None}
use Rattle.branch_cache.specs.Slot.{hit_of, predict_of, update_of}

pub slot_miss_predicts : (slot : Slot) (pc : ℕ) → hit_of slot pc ≡ false → predict_of slot pc ≡ None
unfolding predict_of
slot_miss_predicts slot pc m = simp m

pub slot_miss_keeps : (slot : Slot) (pc : ℕ) (user : Bool) → hit_of slot pc ≡ false → update_of slot pc false user ≡ slot
unfolding update_of
slot_miss_keeps slot pc user m = simp m
