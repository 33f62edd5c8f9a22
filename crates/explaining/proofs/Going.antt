-- Writing the lines, come to a place of the trace: what is left of the retirements, met and written from here, gives all of them, their sum and their counts.
-- Assumes nothing.
use Prim.Native.Nat.{ℕ, ◌+◌, ◌*◌, ◌^◌, ◌≤◌, ◌<◌}
use mathlib.Core.Path.{◌≡◌, sym, ap, subst, ◌∙◌}
use mathlib.Core.Bool.{Bool}
use mathlib.Core.List.{List, [], ◌∷◌, ◌++◌, map}
use native.Mathlib.Nat.{add-zero}
use native.Mathlib.Omega.{arith}
use lib.Dec.{eqb}
use lib.ListN.{length, length-append, length-set, get_or}
use Rattle.bits.specs.Words.{num}
use Rattle.text.specs.Written.{written, written_of}
use Rattle.text.proofs.Writing.{written_none, wrote, wrote_then}
use Rattle.cost.specs.Retiring.{Retiring}
use Rattle.cost.specs.Cost.{cost_of}
use Rattle.profile.specs.declared.Profile.{Profile}
use Rattle.state.specs.declared.Retirement.{Retirement}
use Rattle.state.specs.declared.Event.{Event}
use Rattle.state.specs.declared.Event.TheVariants.{Retired}
use Rattle.state.specs.declared.Oep060Timing.{Oep060Timing}
use Rattle.state.specs.Events.{retiring_of, retirements, total, count_of}
use Rattle.state.specs.Timing.{state_of}
use Rattle.step.specs.Boards.{board_of, after_of}
use Rattle.refusals.specs.declared.Refusal.{Refusal}
use Rattle.std.specs.Prelude.{Err}
use Rattle.records.specs.Record.{got, ended, read_at}
use Rattle.records.specs.Trace.{ahead, read_from}
use Rattle.records.proofs.Walking.{from_end, from_bad, from_got}
use Rattle.records.proofs.Judging.{tells_ahead, tells_room}
use Rattle.reasons.specs.Reasons.{reason_number, reason_of}
use Rattle.reasons.specs.Explain.{explained_of}
use Rattle.explaining.specs.WhyLines.{why_line, why_lines, counted}
use Rattle.explaining.specs.Inner.{met_by, Lined}
use Rattle.explaining.proofs.Tables.{number_few}
use Rattle.explaining.proofs.Meeting.{Few, met, quiet, rest}
use Rattle.explaining.proofs.Counting.{one_more, one_more_lem, num_most}

pub record Going (full : Bool) (p : Profile) (trace out₀ : List ℕ) (start : ℕ) (t₀ : Oep060Timing) (out : List ℕ) (place at k sum : ℕ) (counts : List ℕ) (t : Oep060Timing) : Type 0 where
  pub few : Few k (read_from trace at)
  pub small : sum ≤ k * 4294967295
  pub slots : length counts ≡ 14
  pub low : (n : ℕ) → get_or counts n 0 ≤ k
  pub same : length out ≡ length out₀
  pub room : place + length (why_lines full k (rest p trace at t)) ≤ length out₀
  pub leads : written_of out place (why_lines full k (rest p trace at t)) ≡ written_of out₀ start (why_lines full 0 (rest p trace 0 t₀))
  pub count : k + length (rest p trace at t) ≡ length (rest p trace 0 t₀)
  pub paid : sum + total (map cost_of (rest p trace at t)) ≡ total (map cost_of (rest p trace 0 t₀))
  pub each : (n : ℕ) → get_or counts n 0 + counted n (rest p trace at t) ≡ counted n (rest p trace 0 t₀)

module _ {full : Bool} {p : Profile} {trace out₀ : List ℕ} {start : ℕ} {t₀ : Oep060Timing} {out : List ℕ} {place at k sum : ℕ} {counts : List ℕ} {t : Oep060Timing}
    (g : Going full p trace out₀ start t₀ out place at k sum counts t) where
  pub going_end : read_at trace at ≡ ended → Lined full out₀ start (rest p trace 0 t₀) (record { place = place; count = k; total = sum; counts = counts }) out
  unfolding why_lines retirements
  going_end q =
      let e : rest p trace at t ≡ [] = ap (met_by p t) (from_end trace at q) in
      record {
        lines = sym (written_none out place) ∙ sym (ap (λ (rs : List Retiring). written_of out place (why_lines full k rs)) e) ∙ g.leads;
        count = omega (arith, g.count, ap length e);
        sum = sym (add-zero sum) ∙ sym (ap (λ (rs : List Retiring). sum + total (map cost_of rs)) e) ∙ g.paid;
        each = λ n. sym (add-zero (get_or counts n 0)) ∙ sym (ap (λ (rs : List Retiring). get_or counts n 0 + counted n rs) e) ∙ g.each n;
      }

  pub going_bad : (refusal : Refusal) → read_at trace at ≡ Err refusal → ⊥
  going_bad refusal q = subst (Few k) (from_bad trace at refusal q) g.few

  pub going_index : k ≤ 3276
  going_index = tells_room k 3276 (read_from trace at) g.few

  module _ (e : Event) (next : ℕ) (q : read_at trace at ≡ got e next) where
    here : Few k (ahead e (read_from trace next))
    here = subst (Few k) (from_got trace at e next q) g.few

    few_next : Few (k + count_of (e ∷ [])) (read_from trace next)
    few_next = tells_ahead k 3276 e (read_from trace next) here

    pub going_quiet : count_of (e ∷ []) ≡ 0 → {u : Oep060Timing} → u ≡ after_of p t e → Going full p trace out₀ start t₀ out place next k sum counts u
    going_quiet z {u} h =
        let s : rest p trace at t ≡ rest p trace next u =
        ap (met_by p t) (from_got trace at e next q) ∙ quiet p t e (read_from trace next) z ∙ sym (ap (rest p trace next) h) in
        record {
          few = rw (← add-zero k, ← z) few_next;
          small = g.small;
          slots = g.slots;
          low = g.low;
          same = g.same;
          room = subst (λ (rs : List Retiring). place + length (why_lines full k rs) ≤ length out₀) s g.room;
          leads = sym (ap (λ (rs : List Retiring). written_of out place (why_lines full k rs)) s) ∙ g.leads;
          count = sym (ap (λ (rs : List Retiring). k + length rs) s) ∙ g.count;
          paid = sym (ap (λ (rs : List Retiring). sum + total (map cost_of rs)) s) ∙ g.paid;
          each = λ n. sym (ap (λ (rs : List Retiring). get_or counts n 0 + counted n rs) s) ∙ g.each n;
        }

  module _ {r : Retirement} {next : ℕ} (q : read_at trace at ≡ got (Retired r) next) where
    abbrev this : Retiring
    this = retiring_of (board_of p) (state_of t) r

    abbrev line : List ℕ
    line = why_line full k r.op (explained_of this)

    abbrev left : List Retiring
    left = rest p trace next (after_of p t (Retired r))

    split : rest p trace at t ≡ this ∷ left
    split = ap (met_by p t) (from_got trace at (Retired r) next q) ∙ met p t k r (read_from trace next) (here (Retired r) next q)

    lines_split : why_lines full k (rest p trace at t) ≡ line ++ why_lines full (k + 1) left
    unfolding why_lines
    lines_split = ap (why_lines full k) split

    room_here : place + length line + length (why_lines full (k + 1) left) ≤ length out₀
    room_here = omega (arith, g.room, ap length lines_split, length-append line (why_lines full (k + 1) left))

    pub going_room : place + length line ≤ length out
    going_room = omega (arith, g.same, room_here)

    pub going_line : {place' : ℕ} {out' : List ℕ} → written place' out' ≡ written_of out place line
        → {u : Oep060Timing} → u ≡ after_of p t (Retired r) → {n : ℕ} → n ≡ cost_of this → n < 2 ^ 32
        → Going full p trace out₀ start t₀ out' place' next (k + 1) (sum + n) (one_more counts (reason_number (reason_of this))) u
    going_line {place'} {out'} d {u} h {n} c l =
        let w = wrote out place line going_room d in
        let at' = w.place in
        let j : ℕ = reason_number (reason_of this) in
        let more : (i : ℕ) → get_or (one_more counts j) i 0 ≡ get_or counts i 0 + num (eqb j i) = λ i. one_more_lem counts j i (omega (arith, g.slots, number_few (reason_of this))) in
        let s : rest p trace next u ≡ left = ap (rest p trace next) h in
        record {
          few = few_next (Retired r) next q;
          small = omega (arith, g.small);
          slots = length-set counts j (get_or counts j 0 + 1) ∙ g.slots;
          low = λ i. omega (arith, more i, g.low i, num_most (eqb j i));
          same = w.same ∙ g.same;
          room = rw s (omega (arith, room_here));
          leads = rw s (wrote_then w (why_lines full (k + 1) left) (omega (arith, g.same, room_here)) ∙ rw (← lines_split) g.leads);
          count = rw s (omega (arith, g.count, ap length split));
          paid = rw (s, c) (omega (arith, g.paid, ap (λ (rs : List Retiring). total (map cost_of rs)) split));
          each = λ i. rw s (omega (arith, more i, g.each i, ap (counted i) split));
        }
