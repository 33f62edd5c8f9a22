-- A trace that is accepted has at most 838,860 retirements, and so many costs of 32 bits have a total of 64 bits.
-- Assumes nothing.
use Prim.Native.Nat.{ℕ, suc, ◌*◌, ◌^◌, ◌≤◌, ◌<◌}
use mathlib.Core.List.{List, [], ◌∷◌}
use native.Mathlib.Omega.{arith}
use lib.ListN.{length}
use Rattle.little_endian.specs.Numbers.{Below}
use Rattle.state.specs.declared.Event.{Event}
use Rattle.state.specs.Events.{total, count_of}
use Rattle.refusals.specs.Runs.{Rooms}
use Rattle.records.specs.TraceTable.{Reached, start, past, Accepts}
use Rattle.records.proofs.Walking.{got_within}
use Rattle.records.proofs.Counting.{count_one}
use Rattle.records.proofs.RecordRows.{whole_then}
use Rattle.trace.proofs.Parts.{count_append}

-- a retirement takes 20 bytes
reached_long : (trace : List ℕ) {at : ℕ} {es : List Event} → Reached trace at es → 20 * count_of es ≤ at
reached_long trace start = omega arith
reached_long trace (past {at} {next} {es} {e} h w) =
    omega (arith, reached_long trace h, count_append es (e ∷ []), count_one e, (got_within trace at e next (whole_then trace at w)).0)

pub accepted_few : (trace : List ℕ) (room : Rooms) {es : List Event} → Accepts trace room es → count_of es ≤ 838860
accepted_few trace room a = let l = a.size in omega (arith, reached_long trace a.records)

total_most : (ns : List ℕ) → Below (2 ^ 32) ns → total ns ≤ length ns * 4294967295
total_most [] b = omega arith
total_most (n ∷ ns) b = omega (arith, b 0, total_most ns (λ i. b (suc i)))

pub total_fits : (ns : List ℕ) → Below (2 ^ 32) ns → length ns ≤ 838860 → total ns < 2 ^ 64
total_fits ns b l = omega (arith, total_most ns b)
