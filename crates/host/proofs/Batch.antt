-- What the loop over the words of a batch keeps: the records that are left, run from here, give what all of them give from the start.
-- Assumes nothing.
use mathlib.Core.Path.{◌≡◌, sym, ap, ◌∙◌}
use mathlib.Core.List.{List, [], ◌∷◌}
use Prim.Native.Nat.{ℕ, ◌+◌, ◌*◌, ◌/◌, ◌<◌, ◌≤◌}
use native.Mathlib.Omega.{arith}
use lib.ListN.{length, set, drop, length-drop}
use Rattle.window.specs.Windows.{seen}
use Rattle.window.specs.declared.Window.{Window}
use Rattle.profile.specs.declared.Profile.{Profile}
use Rattle.state.specs.declared.Retirement.{Retirement}
use Rattle.state.specs.declared.Oep060Timing.{Oep060Timing}
use Rattle.state.specs.Timing.{timing_at, seen_of}
use Rattle.step.specs.Boards.{stepped_of}
use Rattle.refusals.specs.Runs.{Runs, runs, Rooms, rooms_of}
use Rattle.refusals.specs.declared.Refusal.{Refusal}
use Rattle.refusals.specs.Verdict.{Verdict, accepted}
use Rattle.std.specs.Prelude.{Err}
use Rattle.batch.specs.Judge.{batch_verdict_of}
use Rattle.batch.specs.Batch.{batch_outcome_by, batch_accepted_of, batch_of}
use Rattle.batch.proofs.Loop.{rest_of, rest_turn, batch_ends}
use Rattle.in_place.proofs.NumbersHeld.{window_held}
use Rattle.in_place.proofs.Held.{Left, left_of}
use Rattle.in_place.specs.Lent.{Lent, lent, state_at, lent_of}
use Rattle.in_place.specs.WindowNumbers.{window_at, numbers_of}
use Rattle.host.specs.HostRan.{host_ran_of, host_outcome}
use Rattle.host.specs.HostWords.{words_at, retirements_of, host_outcome_of_batch, run_batch_at_of}
use Rattle.host.proofs.WordsLaws.{words_count, words_none, words_next}

-- a cost and an answer put in place i
abbrev pub put : Runs → ℕ → ℕ → ℕ → Runs
put lent i n a = runs (set lent.costs i n) (set lent.answers i a)

-- one turn of the loop: the record of the next four words
pub rest_again : (P : Profile) (ws : List ℕ) (lent : Runs) (i n : ℕ) (t : Oep060Timing) {x : Left} → i < length ws / 4 → i < length lent.costs → i < length lent.answers → x ≡ left_of (stepped_of P t (words_at ws i))
    → rest_of P (i + 1) (n + x.cost.0) (put lent i x.cost.0 x.answer) x.timing (retirements_of (drop (4 * (i + 1)) ws)) ≡ rest_of P i n lent t (retirements_of (drop (4 * i) ws))
rest_again P ws lent i n t h k l f =
    let rs : List Retirement = retirements_of (drop (4 * (i + 1)) ws) in
    let four : 4 * (i + 1) ≡ 4 * i + 4 = omega arith in
    let next : words_at ws i ∷ rs ≡ retirements_of (drop (4 * i) ws) = rw (four, words_next ws (4 * i) (omega arith)) in
    ap (λ (x : Left). rest_of P (i + 1) (n + x.cost.0) (put lent i x.cost.0 x.answer) x.timing rs) f
    ∙ rest_turn P i n lent t (words_at ws i) rs k l
    ∙ ap (λ (rs : List Retirement). rest_of P i n lent t rs) next

-- all records are run: the answer of an accepted batch
pub all_run : (P : Profile) (ws : List ℕ) (left lent : Runs) (i n : ℕ) (l : Lent) (t u : Oep060Timing) → length ws / 4 ≤ i
    → rest_of P i n left t (retirements_of (drop (4 * i) ws)) ≡ rest_of P 0 0 lent (seen_of u) (retirements_of ws)
    → host_outcome (host_ran_of accepted (length ws / 4) n) left (lent_of t) ≡ host_outcome_of_batch l (batch_accepted_of P (retirements_of ws) lent u)
all_run P ws left lent i n l t u h e =
    let over : length (drop (4 * i) ws) < 4 = rw length-drop (omega arith) in
    let none : retirements_of (drop (4 * i) ws) ≡ [] = words_none (drop (4 * i) ws) over in
    ap (λ (k : ℕ). host_outcome (host_ran_of accepted k n) left (lent_of t)) (sym (words_count ws))
    ∙ ap (host_outcome_of_batch l) (batch_ends P i n left lent t u (retirements_of ws) none e)

-- the same over the numbers that are lent: those of the window that is left are plain, and the run began with the window as it is read
pub run_ends : (P : Profile) (ws : List ℕ) (left runs : Runs) (i n : ℕ) (l l₀ : Lent) {ns : List ℕ} → length ws / 4 ≤ i
    → numbers_of (window_at l.window) ≡ l.window
    → ns ≡ numbers_of (seen (window_at l₀.window))
    → rest_of P i n left (state_at l) (retirements_of (drop (4 * i) ws)) ≡ rest_of P 0 0 runs (timing_at l₀.tags l₀.state (window_at ns)) (retirements_of ws)
    → host_outcome (host_ran_of accepted (length ws / 4) n) left (lent l.tags l.state l.window) ≡ host_outcome_of_batch l₀ (batch_accepted_of P (retirements_of ws) runs (state_at l₀))
run_ends P ws left runs i n l l₀ h plain e f =
    ap (λ (ns : List ℕ). host_outcome (host_ran_of accepted (length ws / 4) n) left (lent l.tags l.state ns)) (sym plain)
    ∙ all_run P ws left runs i n l₀ (state_at l) (state_at l₀) h
    (f ∙ ap (λ (w : Window). rest_of P 0 0 runs (timing_at l₀.tags l₀.state w) (retirements_of ws)) (ap window_at e ∙ window_held (seen (window_at l₀.window))))

-- the window as it is read, as numbers: plain
pub seen_plain : (w : Window) {ns : List ℕ} → ns ≡ numbers_of (seen w) → numbers_of (window_at ns) ≡ ns
seen_plain w e = ap (λ (ns : List ℕ). numbers_of (window_at ns)) e ∙ ap numbers_of (window_held (seen w)) ∙ sym e

-- the verdict on the words is the batch's
pub words_verdict : (ws : List ℕ) (room : Rooms) {v : Verdict} → v ≡ batch_verdict_of (length ws / 4) room → batch_verdict_of (length (retirements_of ws)) room ≡ v
words_verdict ws room e = ap (λ (n : ℕ). batch_verdict_of n room) (words_count ws) ∙ sym e

-- the whole answer by the verdict
module _ (P : Profile) (ws : List ℕ) (lent : Runs) (l : Lent) where
  by_verdict : (v : Verdict) → batch_verdict_of (length (retirements_of ws)) (rooms_of lent) ≡ v
      → host_outcome_of_batch l (batch_outcome_by P v (retirements_of ws) lent (state_at l)) ≡ run_batch_at_of P ws lent l
  unfolding batch_of
  by_verdict v e = ap (λ (v : Verdict). host_outcome_of_batch l (batch_outcome_by P v (retirements_of ws) lent (state_at l))) (sym e)

  pub batch_refused_lem : {refusal : Refusal} → batch_verdict_of (length ws / 4) (rooms_of lent) ≡ Err refusal
      → host_outcome (host_ran_of (Err refusal) 0 0) lent l ≡ run_batch_at_of P ws lent l
  batch_refused_lem {refusal} e = by_verdict (Err refusal) (words_verdict ws (rooms_of lent) (sym e))

  pub batch_accepted : batch_verdict_of (length ws / 4) (rooms_of lent) ≡ accepted → {n : ℕ} {left : Runs} {m : Lent}
      → host_outcome (host_ran_of accepted (length ws / 4) n) left m
      ≡ host_outcome_of_batch l (batch_accepted_of P (retirements_of ws) lent (state_at l))
      → host_outcome (host_ran_of accepted (length ws / 4) n) left m ≡ run_batch_at_of P ws lent l
  batch_accepted e g = g ∙ by_verdict accepted (words_verdict ws (rooms_of lent) (sym e))
