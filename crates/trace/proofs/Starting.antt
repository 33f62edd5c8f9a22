-- A run starts from the state as it is read, and from there it gives what it gives from the state.
-- Assumes nothing.
use Prim.Native.Nat.{ℕ}
use mathlib.Core.Path.{◌≡◌, sym, ap, ◌∙◌}
use mathlib.Core.List.{List}
use Rattle.window.specs.declared.Window.{Window}
use Rattle.window.specs.Windows.{seen}
use Rattle.profile.specs.declared.Profile.{Profile}
use Rattle.state.specs.declared.Oep060Timing.{Oep060Timing}
use Rattle.state.specs.Events.{State, costs, answers, finally, total, count_of}
use Rattle.state.specs.CrateCache.{crate_cache}
use Rattle.step.specs.Boards.{board_of}
use Rattle.state.specs.Timing.{state_of, timing_of, timing_at, seen_of}
use Rattle.std.specs.Prelude.{Err}
use Rattle.refusals.specs.Runs.{Runs, runs}
use Rattle.little_endian.specs.Numbers.{put_at}
use Rattle.in_place.specs.WindowNumbers.{window_at, numbers_of}
use Rattle.in_place.specs.Lent.{lent, state_at}
use Rattle.in_place.proofs.NumbersHeld.{window_held}
use Rattle.records.specs.Trace.{Trace, events, refused}
use Rattle.trace.specs.Run.{cost_bytes, trace_outcome, ran_at, trace_outcome_of}
use Rattle.trace.proofs.Seen.{seen_seen, state_seen}

module _ (ts bs : List ℕ) (w : Window) {ns : List ℕ} (e : ns ≡ numbers_of (seen w)) where
  pub seen_start : state_at (lent ts bs ns) ≡ timing_at ts bs (seen w)
  seen_start = ap (timing_at ts bs) (ap window_at e ∙ window_held (seen w))

  pub seen_held : state_at (lent ts bs ns) ≡ seen_of (state_at (lent ts bs ns))
  seen_held = seen_start ∙ sym (ap (timing_at ts bs) (seen_seen w)) ∙ sym (ap seen_of seen_start)

pub outcome_seen : (P : Profile) (said : Trace) (lent : Runs) (t : Oep060Timing) {u : Oep060Timing} → u ≡ seen_of t → trace_outcome_of P said lent u ≡ trace_outcome_of P said lent t
outcome_seen P (events es) lent t e =
    ap (trace_outcome_of P (events es) lent) e
    ∙ ap (λ (s : State crate_cache). trace_outcome (ran_at (count_of es) (total (costs (board_of P) s es)) (timing_of (finally (board_of P) s es)))
    (runs (put_at lent.costs 0 (cost_bytes (costs (board_of P) s es))) (put_at lent.answers 0 (answers (board_of P) s es))))
    (state_seen (board_of P) (state_of t))
outcome_seen P (refused refusal) lent t e =
    ap (trace_outcome_of P (refused refusal) lent) e
    ∙ ap (λ (s : State crate_cache). trace_outcome (record { verdict = Err refusal; count = 0; total = 0; timing = timing_of s }) lent) (state_seen (board_of P) (state_of t))
