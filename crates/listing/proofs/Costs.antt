-- A cost fits 32 bits, so the cost that stands in the bytes is the retirement's, and the lines are those of the definition.
-- Assumes nothing.
use Prim.Native.Nat.{ℕ, ◌+◌, ◌*◌, ◌^◌, ◌≤◌, ◌<◌}
use mathlib.Core.Path.{◌≡◌, refl, sym, ap, ◌∙◌}
use mathlib.Core.Bool.{Bool, true, false}
use mathlib.Core.List.{List, [], ◌∷◌, ◌++◌, append_assoc}
use native.Mathlib.Nat.{add-zero}
use native.Mathlib.Omega.{arith}
use lib.ListN.{length, length-append, drop}
use lib.Seq.{drop-drop, drop_at}
use mir.Syntax.{w32}
use mir.Val.{SFits}
use Rattle.little_endian.specs.Numbers.{number_at, bytes_of, bytes_of_each}
use Rattle.little_endian.proofs.Numbers.{number_drop, number_bytes, bytes_length}
use Rattle.class_word.specs.Word.{has, DBCC, EA_INDEXED}
use Rattle.window.specs.declared.dispatch.Instruction.{Instruction}
use Rattle.window.specs.declared.dispatch.Controls.{Controls}
use Rattle.window.specs.declared.Window.{Window}
use Rattle.cost.specs.declared.branch.Answer.{Answer}
use Rattle.cost.specs.declared.branch.Answer.TheVariants.{NotConsulted, Miss, PredictedNotTaken, PredictedTaken}
use Rattle.cost.specs.Retiring.{Retiring, Point, branch, flow, neither, point_of}
use Rattle.cost.specs.Branch.{taken_of, asked_cost, branch_cost}
use Rattle.cost.specs.Cost.{base_of, pairs, cost_by, cost_of}
use Rattle.window.proofs.RawLaws.{fallback_most}
use Rattle.cost.proofs.Largest.{plain_most}
use Rattle.profile.specs.declared.Profile.{Profile}
use Rattle.state.specs.declared.Event.{Event}
use Rattle.state.specs.declared.Event.TheVariants.{Retired, Broken, ClearedAll, ClearedUser}
use Rattle.state.specs.Events.{State, retiring_of, after, retirements, costs, total, count_of}
use Rattle.state.specs.CrateCache.{crate_cache}
use Rattle.step.specs.Boards.{board_of}
use Rattle.trace.specs.Run.{cost_bytes}
use Rattle.records.proofs.Choices.{by_test}
use Rattle.listing.specs.Lines.{opcodes_of, lines_from, retirement_line}
use Rattle.listing.specs.Printed.{lines_read}
use Rattle.listing.proofs.Lengths.{line_most}
use Rattle.listing.proofs.Reading.{Raws}

asked_most : (predicted taken opened : Bool) → asked_cost predicted taken opened ≤ 7
asked_most true true true = omega arith
asked_most true true false = omega arith
asked_most true false opened = omega arith
asked_most false true opened = omega arith
asked_most false false opened = omega arith

branch_most : (dbcc taken opened : Bool) (a : Answer) → branch_cost dbcc taken opened a ≤ 7
branch_most true true opened NotConsulted = omega arith
branch_most true false opened NotConsulted = omega arith
branch_most false true opened NotConsulted = omega arith
branch_most false false opened NotConsulted = omega arith
branch_most dbcc taken opened Miss = asked_most false taken opened
branch_most dbcc taken opened PredictedNotTaken = asked_most false taken opened
branch_most dbcc taken opened PredictedTaken = asked_most true taken opened

base_most : (i : Instruction) (k : Controls) → SFits w32 k.raw.0 → base_of i k ≤ 536870912
unfolding base_of
base_most i k h =
    let p = plain_most i.word.0 k.raw.0 h in
    omega (arith, by_test (λ (n : ℕ). n ≤ 1) (has i.word.0 EA_INDEXED) 1 0 (λ _. omega arith) (λ _. omega arith))

cost_by_lem : (kind : Point) (i : Instruction) (k : Controls) (w : Window) (a : Answer) → SFits w32 k.raw.0 → cost_by kind i k w a ≤ 536870912
cost_by_lem branch i k w a h = omega (arith, branch_most (has i.word.0 DBCC) (taken_of i k) w.opened a)
cost_by_lem flow i k w a h = omega (arith, fallback_most k.raw.0 h)
cost_by_lem neither i k w a h =
    let b = base_most i k h in
    by_test (λ (n : ℕ). n ≤ 536870912) (pairs i k w) _ _ (λ _. omega arith) (λ _. b)

pub cost_most : (r : Retiring) → SFits w32 r.controls.raw.0 → cost_of r ≤ 536870912
unfolding cost_of
cost_most r h = cost_by_lem (point_of r.instruction r.controls) r.instruction r.controls r.window r.answer h

-- the number that stands in front of what is left of the bytes
front : (i n : ℕ) (bytes rest : List ℕ) → drop (4 * i) bytes ≡ bytes_of 4 n ++ rest → n < 256 ^ 4 → number_at 4 bytes (4 * i) ≡ n
front i n bytes rest e h =
    let z = number_drop 4 bytes (4 * i) 0 in
    sym (rw (add-zero (4 * i)) at z) ∙ rw e (number_bytes 4 n rest h)

behind : (i n : ℕ) (bytes rest : List ℕ) → drop (4 * i) bytes ≡ bytes_of 4 n ++ rest → drop (4 * (i + 1)) bytes ≡ rest
behind i n bytes rest e =
    let f : 4 * (i + 1) ≡ 4 * i + 4 = omega arith in
    rw f (sym (drop-drop 4 (4 * i) bytes) ∙ rw e (drop_at (bytes_of 4 n) rest 4 (bytes_length 4 n)))

pub lines_costs : (P : Profile) (i : ℕ) (bytes rest : List ℕ) (s : State crate_cache) (es : List Event) → Raws es
    → drop (4 * i) bytes ≡ cost_bytes (costs (board_of P) s es) ++ rest
    → lines_read i bytes es ≡ lines_from i (opcodes_of es) (costs (board_of P) s es)
unfolding lines_from retirements bytes_of_each
lines_costs P i bytes rest s [] w e = refl
lines_costs P i bytes rest s (Retired r ∷ es) w e =
    let n : ℕ = cost_of (retiring_of (board_of P) s r) in
    let ns : List ℕ = costs (board_of P) (after (board_of P) s (Retired r)) es in
    let e' : drop (4 * i) bytes ≡ bytes_of 4 n ++ (cost_bytes ns ++ rest) = e ∙ append_assoc (bytes_of 4 n) (cost_bytes ns) rest in
    let l = cost_most (retiring_of (board_of P) s r) w.0 in
    rw (front i n bytes (cost_bytes ns ++ rest) e' (omega arith))
    (ap (λ (ls : List ℕ). retirement_line i r.op n ++ ls)
    (lines_costs P (i + 1) bytes rest (after (board_of P) s (Retired r)) es w.1 (behind i n bytes (cost_bytes ns ++ rest) e')))
lines_costs P i bytes rest s (Broken ∷ es) w e = lines_costs P i bytes rest (after (board_of P) s Broken) es w.1 e
lines_costs P i bytes rest s (ClearedAll ∷ es) w e = lines_costs P i bytes rest (after (board_of P) s ClearedAll) es w.1 e
lines_costs P i bytes rest s (ClearedUser ∷ es) w e = lines_costs P i bytes rest (after (board_of P) s ClearedUser) es w.1 e

-- 20 characters a line
pub lines_most : (P : Profile) (i : ℕ) (s : State crate_cache) (es : List Event) → Raws es → i + count_of es ≤ 10000
    → length (lines_from i (opcodes_of es) (costs (board_of P) s es)) ≤ 20 * count_of es
unfolding lines_from retirements
lines_most P i s [] w h = omega arith
lines_most P i s (Retired r ∷ es) w h =
    let n : ℕ = cost_of (retiring_of (board_of P) s r) in
    let t : State crate_cache = after (board_of P) s (Retired r) in
    omega (
      arith,
      length-append (retirement_line i r.op n) (lines_from (i + 1) (opcodes_of es) (costs (board_of P) t es)),
      line_most i r.op n (omega arith) (cost_most (retiring_of (board_of P) s r) w.0),
      lines_most P (i + 1) t es w.1 (omega arith),
    )
lines_most P i s (Broken ∷ es) w h = lines_most P i (after (board_of P) s Broken) es w.1 h
lines_most P i s (ClearedAll ∷ es) w h = lines_most P i (after (board_of P) s ClearedAll) es w.1 h
lines_most P i s (ClearedUser ∷ es) w h = lines_most P i (after (board_of P) s ClearedUser) es w.1 h

pub costs_most : (P : Profile) (s : State crate_cache) (es : List Event) → Raws es → total (costs (board_of P) s es) ≤ 536870912 * count_of es
unfolding retirements
costs_most P s [] w = omega arith
costs_most P s (Retired r ∷ es) w =
    omega (arith, cost_most (retiring_of (board_of P) s r) w.0, costs_most P (after (board_of P) s (Retired r)) es w.1)
costs_most P s (Broken ∷ es) w = costs_most P (after (board_of P) s Broken) es w.1
costs_most P s (ClearedAll ∷ es) w = costs_most P (after (board_of P) s ClearedAll) es w.1
costs_most P s (ClearedUser ∷ es) w = costs_most P (after (board_of P) s ClearedUser) es w.1
