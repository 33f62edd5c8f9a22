-- The outcome where some costs and answers are written already and the rest is to be run: at the start, at the end, and past one event.
-- Assumes nothing.
use Prim.Native.Nat.{ℕ, ◌+◌, ◌*◌, ◌≤◌, ◌<◌}
use mathlib.Core.Path.{◌≡◌, refl}
use mathlib.Core.List.{List, [], ◌∷◌, ◌++◌, append-nil}
use native.Mathlib.Nat.{zero-add, add-zero}
use native.Mathlib.Omega.{arith}
use lib.ListN.{length, take-append-drop}
use Rattle.little_endian.specs.Numbers.{bytes_of, bytes_of_each, put_at}
use Rattle.little_endian.proofs.Numbers.{bytes_length, put_joins}
use Rattle.cost.specs.Branch.{answer_number}
use Rattle.cost.specs.Cost.{cost_of, predicted_of}
use Rattle.profile.specs.declared.Profile.{Profile}
use Rattle.state.specs.declared.Retirement.{Retirement}
use Rattle.state.specs.declared.Event.{Event}
use Rattle.state.specs.declared.Event.TheVariants.{Retired, Broken, ClearedAll, ClearedUser}
use Rattle.state.specs.declared.Oep060Timing.{Oep060Timing}
use Rattle.state.specs.declared.Stepped.{Stepped}
use Rattle.state.specs.Events.{State, retiring_of, after, retirements, costs, answers, finally, total, count_of}
use Rattle.state.specs.CrateCache.{crate_cache}
use Rattle.state.specs.Timing.{state_of, timing_of, stepped_by, seen_of}
use Rattle.step.specs.Boards.{board_of, stepped_of, after_of}
use Rattle.refusals.specs.Refused.{refused_of}
use Rattle.refusals.specs.Runs.{Runs, runs}
use Rattle.records.specs.Trace.{Trace, events, refused, ahead}
use Rattle.records.specs.Judged.{Fits}
use Rattle.trace.specs.Run.{cost_bytes, TraceOutcome, trace_outcome, ran_at, trace_outcome_of}

-- a cost and an answer written behind k others
abbrev pub put_next : Runs → ℕ → ℕ → ℕ → Runs
put_next lent k n a = runs (put_at lent.costs (k * 4) (bytes_of 4 n)) (put_at lent.answers k (a ∷ []))

-- the outcome where k costs and answers are written already, the costs' sum is `sum`, and the rest is to be run from t
abbrev pub outcome_from : Profile → Runs → ℕ → ℕ → Oep060Timing → Trace → TraceOutcome
outcome_from P lent k sum t (events es) =
    trace_outcome
    (ran_at (k + count_of es) (sum + total (costs (board_of P) (state_of t) es)) (timing_of (finally (board_of P) (state_of t) es)))
    (runs (put_at lent.costs (k * 4) (cost_bytes (costs (board_of P) (state_of t) es))) (put_at lent.answers k (answers (board_of P) (state_of t) es)))
outcome_from P lent k sum t (refused refusal) = trace_outcome (refused_of refusal t) lent

pub run_none : (P : Profile) (said : Trace) (lent : Runs) (t : Oep060Timing) → Fits 0 (length lent.costs) said → outcome_from P lent 0 0 (seen_of t) said ≡ trace_outcome_of P said lent t
run_none P (events es) lent t f = simp zero-add
run_none P (refused refusal) lent t f = absurd f

pub run_end : (P : Profile) (lent : Runs) (k sum : ℕ) (t : Oep060Timing) → outcome_from P lent k sum t (events []) ≡ trace_outcome (ran_at k sum t) lent
unfolding retirements finally put_at bytes_of_each
run_end P lent k sum t = simp (add-zero, append-nil, take-append-drop)

-- a retirement's cost and answer are written behind the others
pub run_cost : (P : Profile) (lent : Runs) (k sum : ℕ) (t : Oep060Timing) (r : Retirement) (said : Trace) (d : Stepped) → d ≡ stepped_of P t r
    → k * 4 + 4 ≤ length lent.costs → k < length lent.answers → Fits k (length lent.costs) (ahead (Retired r) said)
    → outcome_from P lent k sum t (ahead (Retired r) said)
    ≡ outcome_from P (put_next lent k d.cost.0 (answer_number d.answer)) (k + 1) (sum + d.cost.0) d.timing said
unfolding retirements finally stepped_by bytes_of_each
run_cost P lent k sum t r (events es) d q room place f =
    let v : State crate_cache = after (board_of P) (state_of t) (Retired r) in
    let n : ℕ = cost_of (retiring_of (board_of P) (state_of t) r) in
    let a : ℕ = predicted_of (retiring_of (board_of P) (state_of t) r) in
    let bs : List ℕ = cost_bytes (costs (board_of P) v es) in
    let later : List ℕ = answers (board_of P) v es in
    let four : k * 4 + length (bytes_of 4 n) ≡ (k + 1) * 4 = omega (arith, bytes_length 4 n) in
    let more : k + 1 + count_of es ≡ k + count_of (Retired r ∷ es) = omega arith in
    let dear : sum + n + total (costs (board_of P) v es) ≡ sum + total (n ∷ costs (board_of P) v es) = omega arith in
    let join : put_at (put_at lent.costs (k * 4) (bytes_of 4 n)) ((k + 1) * 4) bs ≡ put_at lent.costs (k * 4) (bytes_of 4 n ++ bs) =
    rw (← four) (put_joins lent.costs (k * 4) (bytes_of 4 n) (omega (arith, bytes_length 4 n)) bs) in
    let told : put_at (put_at lent.answers k (a ∷ [])) (k + 1) later ≡ put_at lent.answers k (a ∷ later) = put_joins lent.answers k (a ∷ []) (omega (arith, place)) later in
    rw q (rw (more, dear, join, told))
run_cost P lent k sum t r (refused refusal) d q room place f = absurd f

-- any other event costs nothing
pub run_quiet : (P : Profile) (lent : Runs) (k sum : ℕ) (t : Oep060Timing) (e : Event) (said : Trace) → count_of (e ∷ []) ≡ 0
    → Fits k (length lent.costs) (ahead e said) → outcome_from P lent k sum t (ahead e said) ≡ outcome_from P lent k sum (after_of P t e) said
unfolding retirements finally
run_quiet P lent k sum t (Retired r) (events es) z f = absurd (omega arith)
run_quiet P lent k sum t Broken (events es) z f = refl
run_quiet P lent k sum t ClearedAll (events es) z f = refl
run_quiet P lent k sum t ClearedUser (events es) z f = refl
run_quiet P lent k sum t e (refused refusal) z f = absurd f
