-- A run in two parts, the second from the state that the first leaves, gives the costs, the answers and the state of the run of both.
-- Assumes nothing.
use Prim.Native.Nat.{ℕ, suc, ◌+◌, ◌*◌, ◌≤◌}
use mathlib.Core.Path.{◌≡◌, refl, sym, ap, ◌∙◌}
use mathlib.Core.List.{List, [], ◌∷◌, ◌++◌, map, append_assoc, append-nil}
use native.Mathlib.Omega.{arith}
use lib.ListN.{length, drop, length-append}
use lib.Seq.{drop-append-add, drop-length}
use Rattle.little_endian.specs.Numbers.{bytes_of, bytes_of_each, put_at}
use Rattle.little_endian.proofs.Each.{each_length}
use Rattle.cost.specs.Retiring.{Retiring}
use Rattle.cost.specs.Cost.{cost_of, predicted_of}
use Rattle.profile.specs.declared.Profile.{Profile}
use Rattle.state.specs.declared.Event.{Event}
use Rattle.state.specs.declared.Event.TheVariants.{Retired, Broken, ClearedAll, ClearedUser}
use Rattle.state.specs.declared.Oep060Timing.{Oep060Timing}
use Rattle.state.specs.Board.{Board}
use Rattle.state.specs.Events.{State, retiring_of, after, retirements, finally, total, count_of}
use Rattle.state.specs.CrateCache.{crate_cache}
use Rattle.step.specs.Boards.{board_of}
use Rattle.state.specs.Timing.{state_of, timing_of, seen_of}
use Rattle.refusals.specs.Verdict.{accepted}
use Rattle.refusals.specs.Runs.{Runs, runs, rooms_of}
use Rattle.trace.specs.Run.{cost_bytes, costs_of, answers_of, next_of, TraceOutcome, trace_outcome, run_trace_of}
use Rattle.records.specs.TraceTable.{Accepts}
use Rattle.records.proofs.Counting.{count_cons}
use Rattle.trace.proofs.Seen.{state_seen, finally_seen}
use Rattle.trace.proofs.Refused.{run_accepted}
use Rattle.records.proofs.Joined.{reached_joined}

module _ (B : Board) where
  pub finally_append : (s : State B.rule) (es fs : List Event) → finally B s (es ++ fs) ≡ finally B (finally B s es) fs
  unfolding finally
  finally_append s [] fs = refl
  finally_append s (e ∷ es) fs = finally_append (after B s e) es fs

  -- a number of each retirement: its cost, or its answer
  module _ (f : Retiring → ℕ) where
    abbrev each : State B.rule → List Event → List ℕ
    each s es = map f (retirements B s es)

    pub each_append : (s : State B.rule) (es fs : List Event) → each s (es ++ fs) ≡ each s es ++ each (finally B s es) fs
    unfolding finally retirements
    each_append s [] fs = refl
    each_append s (Retired r ∷ es) fs = ap (λ (ns : List ℕ). f (retiring_of B s r) ∷ ns) (each_append (after B s (Retired r)) es fs)
    each_append s (Broken ∷ es) fs = each_append (after B s Broken) es fs
    each_append s (ClearedAll ∷ es) fs = each_append (after B s ClearedAll) es fs
    each_append s (ClearedUser ∷ es) fs = each_append (after B s ClearedUser) es fs

    pub each_count : (s : State B.rule) (es : List Event) → length (each s es) ≡ count_of es
    unfolding retirements
    each_count s [] = refl
    each_count s (Retired r ∷ es) = ap suc (each_count (after B s (Retired r)) es)
    each_count s (Broken ∷ es) = each_count (after B s Broken) es
    each_count s (ClearedAll ∷ es) = each_count (after B s ClearedAll) es
    each_count s (ClearedUser ∷ es) = each_count (after B s ClearedUser) es

pub count_append : (es fs : List Event) → count_of (es ++ fs) ≡ count_of es + count_of fs
count_append [] fs = omega arith
count_append (e ∷ es) fs = omega (arith, count_cons e (es ++ fs), count_cons e es, count_append es fs)

pub total_append : (ns ms : List ℕ) → total (ns ++ ms) ≡ total ns + total ms
total_append [] ms = omega arith
total_append (n ∷ ns) ms = omega (arith, total_append ns ms)

pub bytes_append : (ns ms : List ℕ) → cost_bytes (ns ++ ms) ≡ cost_bytes ns ++ cost_bytes ms
unfolding bytes_of_each
bytes_append [] ms = refl
bytes_append (n ∷ ns) ms = ap (λ (bs : List ℕ). bytes_of 4 n ++ bs) (bytes_append ns ms) ∙ sym (append_assoc (bytes_of 4 n) (cost_bytes ns) (cost_bytes ms))

pub bytes_four : (ns : List ℕ) → length (cost_bytes ns) ≡ 4 * length ns
bytes_four ns = each_length 4 ns

-- the state that a run leaves is as it is read
next_read : (P : Profile) (t : Oep060Timing) (es : List Event) → state_of (seen_of (next_of P t es)) ≡ finally (board_of P) (state_of (seen_of t)) es
next_read P t es =
    sym (finally_seen (board_of P) (state_of (seen_of t)) es)
    ∙ ap (λ (s : State crate_cache). finally (board_of P) s es) (state_seen (board_of P) (state_of t))

pub next_append : (P : Profile) (t : Oep060Timing) (es fs : List Event) → next_of P t (es ++ fs) ≡ next_of P (next_of P t es) fs
next_append P t es fs =
    ap timing_of
    (finally_append (board_of P) (state_of (seen_of t)) es fs
    ∙ ap (λ (s : State crate_cache). finally (board_of P) s fs) (sym (next_read P t es)))

-- a number of each retirement of a run from the state t as it is read
abbrev each_of : (Retiring → ℕ) → Profile → Oep060Timing → List Event → List ℕ
each_of f P t es = map f (retirements (board_of P) (state_of (seen_of t)) es)

pub run_append : (f : Retiring → ℕ) (P : Profile) (t : Oep060Timing) (es fs : List Event) → each_of f P t (es ++ fs) ≡ each_of f P t es ++ each_of f P (next_of P t es) fs
run_append f P t es fs =
    each_append (board_of P) f (state_of (seen_of t)) es fs
    ∙ ap (λ (s : State crate_cache). each_of f P t es ++ map f (retirements (board_of P) s fs)) (sym (next_read P t es))

-- bytes that fill the first list, and those behind them
put_full : (l bs : List ℕ) → length bs ≡ length l → put_at l 0 bs ≡ bs
unfolding put_at
put_full l bs e =
    let z : 0 + length bs ≡ length l = omega arith in
    ap (λ (n : ℕ). bs ++ drop n l) z ∙ ap (λ (x : List ℕ). bs ++ x) (drop-length l) ∙ append-nil bs

put_both : (l m bs cs : List ℕ) → length bs ≡ length l → put_at (l ++ m) 0 (bs ++ cs) ≡ put_at l 0 bs ++ put_at m 0 cs
unfolding put_at
put_both l m bs cs e =
    let n : 0 + length (bs ++ cs) ≡ length l + (0 + length cs) = omega (arith, length-append bs cs) in
    ap (λ (k : ℕ). (bs ++ cs) ++ drop k (l ++ m)) n
    ∙ ap (λ (x : List ℕ). (bs ++ cs) ++ x) (drop-append-add l m (0 + length cs))
    ∙ append_assoc bs cs (drop (0 + length cs) m)
    ∙ ap (λ (x : List ℕ). x ++ (cs ++ drop (0 + length cs) m)) (sym (put_full l bs e))

-- one run into lent bytes of which the first part is what the first trace's costs and answers fill
module _ (P : Profile) (a b : List ℕ) (l m : Runs) (t : Oep060Timing) {es fs : List Event} (first : Accepts a (rooms_of l) es) (second : Accepts b (rooms_of m) fs)
    (fills : length l.costs ≡ 4 * count_of es) (tells : length l.answers ≡ count_of es) (size : length (a ++ b) ≤ 16777216) where
  abbrev both_runs : Runs
  both_runs = runs (l.costs ++ m.costs) (l.answers ++ m.answers)

  abbrev ran₁ : TraceOutcome
  ran₁ = run_trace_of P a l t

  abbrev ran₂ : TraceOutcome
  ran₂ = run_trace_of P b m ran₁.ran.timing

  both : Accepts (a ++ b) (rooms_of both_runs) (es ++ fs)
  both =
      record {
        size = size;
        records = reached_joined a b first.records second.records;
        enough = omega (arith, second.enough, fills, count_append es fs, length-append l.costs m.costs);
        enough_answers = omega (arith, second.enough_answers, tells, count_append es fs, length-append l.answers m.answers);
      }

  pub run_parts : run_trace_of P (a ++ b) both_runs t
      ≡ trace_outcome
      (record {
        verdict = accepted;
        count = ran₁.ran.count + ran₂.ran.count;
        total = ran₁.ran.total + ran₂.ran.total;
        timing = ran₂.ran.timing;
      })
      (runs (ran₁.lent.costs ++ ran₂.lent.costs) (ran₁.lent.answers ++ ran₂.lent.answers))
  run_parts =
      let u : Oep060Timing = next_of P t es in
      let full : length (cost_bytes (costs_of P t es)) ≡ length l.costs =
      bytes_four (costs_of P t es) ∙ ap (λ (n : ℕ). 4 * n) (each_count (board_of P) cost_of (state_of (seen_of t)) es) ∙ sym fills in
      let bs : put_at both_runs.costs 0 (cost_bytes (costs_of P t (es ++ fs))) ≡ put_at l.costs 0 (cost_bytes (costs_of P t es)) ++ put_at m.costs 0 (cost_bytes (costs_of P u fs)) =
      ap (λ (ns : List ℕ). put_at both_runs.costs 0 (cost_bytes ns)) (run_append cost_of P t es fs)
      ∙ ap (put_at both_runs.costs 0) (bytes_append (costs_of P t es) (costs_of P u fs))
      ∙ put_both l.costs m.costs (cost_bytes (costs_of P t es)) (cost_bytes (costs_of P u fs)) full in
      let told : put_at both_runs.answers 0 (answers_of P t (es ++ fs)) ≡ put_at l.answers 0 (answers_of P t es) ++ put_at m.answers 0 (answers_of P u fs) =
      ap (put_at both_runs.answers 0) (run_append predicted_of P t es fs)
      ∙ put_both l.answers m.answers (answers_of P t es) (answers_of P u fs) (each_count (board_of P) predicted_of (state_of (seen_of t)) es ∙ sym tells) in
      let sum : total (costs_of P t (es ++ fs)) ≡ total (costs_of P t es) + total (costs_of P u fs) =
      ap total (run_append cost_of P t es fs) ∙ total_append (costs_of P t es) (costs_of P u fs) in
      rw (run_accepted P a l t first) (rw (run_accepted P b m u second) (run_accepted P (a ++ b) both_runs t both ∙ rw (count_append es fs, sum, next_append P t es fs, bs, told)))
