-- Demand 3 of every run: its bounds of the count and the total that a run gives, and its zeros of the costs that stand in the lent places.
-- Assumes nothing.
use Prim.Native.Nat.{ℕ, zero, suc, ◌+◌, ◌/◌, ◌^◌, ◌≤◌}
use mathlib.Core.Path.{◌≡◌, refl, sym, ap, ap₂, subst, ◌∙◌}
use mathlib.Core.Bool.{Bool, true, false, true≢false}
use mathlib.Core.List.{List, [], ◌∷◌, map}
use native.Mathlib.Omega.{arith}
use lib.ListN.{length, take, drop, length-map}
use lib.Seq.{take_at}
use Rattle.std.specs.Prelude.{Ok, Err}
use Rattle.little_endian.specs.Numbers.{numbers_at, put_at, Below}
use Rattle.little_endian.proofs.Each.{numbers_each}
use Rattle.cost.specs.Cost.{cost_of}
use Rattle.state.specs.declared.Retirement.{Retirement}
use Rattle.state.specs.declared.Event.{Event}
use Rattle.state.specs.declared.Event.TheVariants.{Retired, Broken, ClearedAll, ClearedUser}
use Rattle.profile.specs.declared.Profile.{Profile}
use Rattle.state.specs.declared.Oep060Timing.{Oep060Timing}
use Rattle.state.specs.Events.{State, retiring_of, after, retirements, costs, total, count_of}
use Rattle.state.specs.CrateCache.{crate_cache}
use Rattle.state.specs.Timing.{state_of, seen_of}
use Rattle.step.specs.Boards.{board_of}
use Rattle.refusals.specs.Given.{is_accepted}
use Rattle.refusals.specs.Runs.{Runs, rooms_of}
use Rattle.refusals.specs.Verdict.{Verdict}
use Rattle.records.specs.Trace.{Trace, events, refused, read_trace}
use Rattle.records.specs.TraceTable.{Accepts}
use Rattle.records.specs.Judged.{judged_trace}
use Rattle.records.proofs.Refused.{sound_then}
use Rattle.trace.specs.Run.{TraceOutcome, costs_of, trace_outcome_of, run_trace_of}
use Rattle.trace.proofs.Parts.{each_count}
use Rattle.trace.proofs.Refused.{run_accepted}
use Rattle.batch.specs.Judge.{batch_verdict_of}
use Rattle.batch.specs.Batch.{events_of, batch_outcome_by, batch_of}
use Rattle.listing.proofs.Reading.{Raws, Short, short}
use Rattle.listing.proofs.Costs.{cost_most}
use Rattle.promises.specs.Moving.{meetings, is_free, is_zero, TimeMoves}
use Rattle.promises.proofs.Zero.{zero_is}
use Rattle.promises.proofs.Demand.{profile_sound, board_demand3}
use Rattle.promises.proofs.Batches.{all_count}
use Rattle.records.specs.Record.{remaining}

-- ---- the bounds

module _ (P : Profile) (s : State crate_cache) (es : List Event) where
  counted : length (retirements (board_of P) s es) ≡ count_of es
  counted = sym (length-map (retirements (board_of P) s es) cost_of) ∙ each_count (board_of P) cost_of s es

  at_least_lem : count_of es / 2 ≤ total (costs (board_of P) s es)
  at_least_lem = rw (← counted) ((board_demand3 P).at_least s es)

  at_least_shut_lem : s.window.opened ≡ false → (count_of es + 1) / 2 ≤ total (costs (board_of P) s es)
  at_least_shut_lem h = rw (← counted) ((board_demand3 P).at_least_shut s es h)

-- a shut window is read as shut
still_shut : (t : Oep060Timing) → t.window.opened ≡ false → (state_of (seen_of t)).window.opened ≡ false
still_shut t h = rw h

module _ (P : Profile) (lent : Runs) (t : Oep060Timing) where
  trace_by : (said : Trace) → (trace_outcome_of P said lent t).ran.count / 2 ≤ (trace_outcome_of P said lent t).ran.total
  trace_by (events es) = at_least_lem P (state_of (seen_of t)) es
  trace_by (refused refusal) = omega arith

  trace_shut_by : t.window.opened ≡ false → (said : Trace) → ((trace_outcome_of P said lent t).ran.count + 1) / 2 ≤ (trace_outcome_of P said lent t).ran.total
  trace_shut_by h (events es) = at_least_shut_lem P (state_of (seen_of t)) es (still_shut t h)
  trace_shut_by h (refused refusal) = omega arith

module _ (P : Profile) (trace : List ℕ) (lent : Runs) (t : Oep060Timing) where
  trace_moves : (run_trace_of P trace lent t).ran.count / 2 ≤ (run_trace_of P trace lent t).ran.total
  unfolding run_trace_of
  trace_moves = trace_by P lent t (judged_trace trace (rooms_of lent))

  trace_moves_shut : t.window.opened ≡ false → ((run_trace_of P trace lent t).ran.count + 1) / 2 ≤ (run_trace_of P trace lent t).ran.total
  unfolding run_trace_of
  trace_moves_shut h = trace_shut_by P lent t h (judged_trace trace (rooms_of lent))

module _ (P : Profile) (rs : List Retirement) (lent : Runs) (t : Oep060Timing) where
  batch_by : (v : Verdict) → (batch_outcome_by P v rs lent t).ran.count / 2 ≤ (batch_outcome_by P v rs lent t).ran.total
  batch_by (Ok done) = rw (← all_count rs) (at_least_lem P (state_of (seen_of t)) (events_of rs))
  batch_by (Err refusal) = omega arith

  batch_shut_by : t.window.opened ≡ false → (v : Verdict) → ((batch_outcome_by P v rs lent t).ran.count + 1) / 2 ≤ (batch_outcome_by P v rs lent t).ran.total
  batch_shut_by h (Ok done) = rw (← all_count rs) (at_least_shut_lem P (state_of (seen_of t)) (events_of rs) (still_shut t h))
  batch_shut_by h (Err refusal) = omega arith

  batch_moves : (batch_of P rs lent t).ran.count / 2 ≤ (batch_of P rs lent t).ran.total
  unfolding batch_of
  batch_moves = batch_by (batch_verdict_of (length rs) (rooms_of lent))

  batch_moves_shut : t.window.opened ≡ false → ((batch_of P rs lent t).ran.count + 1) / 2 ≤ (batch_of P rs lent t).ran.total
  unfolding batch_of
  batch_moves_shut h = batch_shut_by h (batch_verdict_of (length rs) (rooms_of lent))

-- ---- the zeros

zeros : (P : Profile) (s : State crate_cache) (es : List Event) → map is_zero (costs (board_of P) s es) ≡ map (is_free P) (meetings P s es)
unfolding retirements
zeros P s [] = refl
zeros P s (Retired r ∷ es) = ap₂ (λ (b : Bool) (bs : List Bool). b ∷ bs) (zero_is (board_of P) s r (profile_sound P)) (zeros P (after (board_of P) s (Retired r)) es)
zeros P s (Broken ∷ es) = zeros P (after (board_of P) s Broken) es
zeros P s (ClearedAll ∷ es) = zeros P (after (board_of P) s ClearedAll) es
zeros P s (ClearedUser ∷ es) = zeros P (after (board_of P) s ClearedUser) es

-- costs of raw counts of 32 bits have 32 bits
costs_small : (P : Profile) (s : State crate_cache) (es : List Event) → Raws es → Below (256 ^ 4) (costs (board_of P) s es)
unfolding retirements
costs_small P s [] w i = omega arith
costs_small P s (Retired r ∷ es) w zero = omega (arith, cost_most (retiring_of (board_of P) s r) w.0)
costs_small P s (Retired r ∷ es) w (suc i) = costs_small P (after (board_of P) s (Retired r)) es w.1 i
costs_small P s (Broken ∷ es) w i = costs_small P (after (board_of P) s Broken) es w.1 i
costs_small P s (ClearedAll ∷ es) w i = costs_small P (after (board_of P) s ClearedAll) es w.1 i
costs_small P s (ClearedUser ∷ es) w i = costs_small P (after (board_of P) s ClearedUser) es w.1 i

raws_of : (trace : List ℕ) (es : List Event) → read_trace trace ≡ events es → Raws es
raws_of trace es e = (subst (Short (remaining trace 0)) e (short trace)).1

module _ (P : Profile) (trace : List ℕ) (lent : Runs) (t : Oep060Timing) (es : List Event) (ok : Accepts trace (rooms_of lent) es) where
  abbrev ns : List ℕ
  ns = costs_of P t es

  -- the numbers that stand in the lent bytes are the costs
  pub stand : numbers_at (count_of es) 4 (run_trace_of P trace lent t).lent.costs 0 ≡ ns
  unfolding put_at
  stand =
      ap₂ (λ (n : ℕ) (o : TraceOutcome). numbers_at n 4 o.lent.costs 0) (sym (each_count (board_of P) cost_of (state_of (seen_of t)) es)) (run_accepted P trace lent t ok)
      ∙ numbers_each 4 ns _ (costs_small P (state_of (seen_of t)) es (raws_of trace es (sound_then trace ok.records)))

  trace_zero_lem : map is_zero (numbers_at (count_of es) 4 (run_trace_of P trace lent t).lent.costs 0) ≡ map (is_free P) (meetings P (state_of (seen_of t)) es)
  trace_zero_lem = ap (map is_zero) stand ∙ zeros P (state_of (seen_of t)) es

module _ (P : Profile) (rs : List Retirement) (lent : Runs) (t : Oep060Timing) where
  batch_zero_by : (v : Verdict) → is_accepted (batch_outcome_by P v rs lent t).ran.verdict ≡ true
      → map is_zero (take (length rs) (batch_outcome_by P v rs lent t).lent.costs) ≡ map (is_free P) (meetings P (state_of (seen_of t)) (events_of rs))
  batch_zero_by (Ok done) h =
      ap (map is_zero)
      (take_at (costs (board_of P) (state_of (seen_of t)) (events_of rs)) (drop (length rs) lent.costs) (length rs) (each_count (board_of P) cost_of (state_of (seen_of t)) (events_of rs) ∙ all_count rs))
      ∙ zeros P (state_of (seen_of t)) (events_of rs)
  batch_zero_by (Err refusal) h = absurd (true≢false (sym h))

  batch_zero_lem : is_accepted (batch_of P rs lent t).ran.verdict ≡ true
      → map is_zero (take (length rs) (batch_of P rs lent t).lent.costs) ≡ map (is_free P) (meetings P (state_of (seen_of t)) (events_of rs))
  unfolding batch_of
  batch_zero_lem = batch_zero_by (batch_verdict_of (length rs) (rooms_of lent))

pub time_moves : (P : Profile) → TimeMoves P
time_moves P =
    record {
      board = board_demand3 P;
      trace = trace_moves P;
      batch = batch_moves P;
      trace_shut = trace_moves_shut P;
      batch_shut = batch_moves_shut P;
      trace_zero = trace_zero_lem P;
      batch_zero = batch_zero_lem P;
    }
