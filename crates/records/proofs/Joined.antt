-- The records of two traces, one behind the other: their events are those of the first and then those of the second.
-- Assumes nothing.
use Prim.Native.Nat.{ℕ, ◌+◌}
use mathlib.Core.List.{List, ◌++◌, append_assoc, append-nil}
use native.Mathlib.Nat.{add-zero}
use lib.ListN.{length, length-append}
use Rattle.state.specs.declared.Event.{Event}
use Rattle.records.proofs.Alike.{whole_front, whole_behind}
use Rattle.records.specs.TraceTable.{Reached, start, past}

module _ (a b : List ℕ) where
  reached_front : {at : ℕ} {es : List Event} → Reached a at es → Reached (a ++ b) at es
  reached_front start = start
  reached_front (past h w) = past (reached_front h) (whole_front a b w)

  reached_behind : {at : ℕ} {es fs : List Event} → Reached (a ++ b) (length a) es → Reached b at fs → Reached (a ++ b) (length a + at) (es ++ fs)
  reached_behind h start = rw (add-zero, append-nil) h
  reached_behind h (past g w) = rw append_assoc at (past (reached_behind h g) (whole_behind a b w))

  pub reached_joined : {es fs : List Event} → Reached a (length a) es → Reached b (length b) fs → Reached (a ++ b) (length (a ++ b)) (es ++ fs)
  reached_joined h g = rw length-append (reached_behind (reached_front h) g)
