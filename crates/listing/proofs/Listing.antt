-- A trace of at most 65,536 bytes has room for its costs, its answers and its text; and the text that is written is the definition's.
-- Assumes nothing.
use Prim.Native.Nat.{ℕ, ◌*◌, ◌≤◌, ◌<◌}
use mathlib.Core.Path.{◌≡◌, refl, sym, ap, subst, ◌∙◌}
use mathlib.Core.List.{List, ◌++◌}
use native.Mathlib.Nat.{zero-add}
use native.Mathlib.Omega.{arith}
use lib.ListN.{length, length-append}
use lib.Dec.{ltb}
use borrow.Author.Tests.{lt-ltb, le-ltb, ltb-false}
use Rattle.little_endian.specs.Numbers.{put_at}
use Rattle.text.specs.Written.{Written, written, written_of}
use Rattle.profile.specs.declared.Profile.{Profile}
use Rattle.state.specs.declared.Event.{Event}
use Rattle.state.specs.declared.Oep060Timing.{Oep060Timing}
use Rattle.state.specs.Events.{total, count_of}
use Rattle.state.specs.Timing.{state_of, seen_of}
use Rattle.refusals.specs.declared.Refusal.TheVariants.{Oversized}
use Rattle.refusals.specs.declared.outcome.Ran.{Ran}
use Rattle.refusals.specs.Runs.{Runs, Rooms, rooms_of}
use Rattle.records.specs.Record.{remaining}
use Rattle.records.proofs.Choices.{by_test}
use Rattle.records.specs.Trace.{Trace, events, refused, read_trace}
use Rattle.trace.specs.Run.{trace_outcome_of, trace_outcome, TraceOutcome, costs_of, run_trace_of}
use Rattle.records.specs.Judged.{judged_trace, verdict_of}
use Rattle.records.specs.Judged.{with_room}
use Rattle.listing.specs.Lines.{header_line, total_line, opcodes_of, lines_from}
use Rattle.listing.specs.Listing.{short_trace_of, table_of, text_by, timing_by, listing_outcome, listing_outcome_by}
use Rattle.listing.specs.Printed.{lines_read, Ready, printed}
use Rattle.listing.proofs.Lengths.{total_most}
use Rattle.listing.proofs.Reading.{Short, Raws, short}
use Rattle.listing.proofs.Costs.{lines_costs, lines_most, costs_most}

table_most : (P : Profile) (size : ℕ) (es : List Event) (t : Oep060Timing) → size ≤ 65536 → Short size (events es) → length (table_of P es t) ≤ 65588
table_most P size es t h q =
    let ls : List ℕ = lines_from 0 (opcodes_of es) (costs_of P t es) in
    let a = lines_most P 0 (state_of (seen_of t)) es q.1 (omega (arith, q.0)) in
    let b = costs_most P (state_of (seen_of t)) es q.1 in
    let c = total_most (count_of es) (total (costs_of P t es)) (omega (arith, q.0)) (omega (arith, q.0)) in
    omega (arith, q.0, length-append (header_line ++ ls) (total_line (count_of es) (total (costs_of P t es))), length-append header_line ls)

-- the room that the lister has
abbrev Large : Rooms → Type 0
Large room = (13104 ≤ room.costs) × (3276 ≤ room.answers)

enough_room : (size : ℕ) (room : Rooms) (n : ℕ) (said : Trace) → size ≤ 65536 → Short size said → Large room → with_room n room said ≡ said
enough_room size room n (events es) h q r = simp (le-ltb room.costs (4 * count_of es) (omega (arith, q.0, r.0)), le-ltb room.answers (count_of es) (omega (arith, q.0, r.1)))
enough_room size room n (refused refusal) h q r = refl

-- text that was written, with the verdict and the next state, is the outcome
listed : (P : Profile) (said : Trace) (out : List ℕ) (t : Oep060Timing) {n : ℕ} {after : List ℕ} → written n after ≡ written_of out 0 (text_by P said t)
    → listing_outcome (record { verdict = verdict_of said; len = n; timing = timing_by P said t }) after ≡ listing_outcome_by P said out t
unfolding written_of
listed P said out t e = rw (ap (λ (w : Written). w.next) e ∙ zero-add (length (text_by P said t)), ap (λ (w : Written). w.bytes) e)

pub judged_large : (trace : List ℕ) → 65536 < length trace → short_trace_of trace ≡ refused Oversized
unfolding short_trace_of
judged_large trace h = simp (lt-ltb _ _ h)

module _ (trace : List ℕ) (h : length trace ≤ 65536) where
  small : remaining trace 0 ≤ 65536
  small = omega arith

  pub judged_same : short_trace_of trace ≡ read_trace trace
  unfolding short_trace_of
  judged_same = simp (le-ltb _ _ h)

  -- the whole text of a trace that is accepted
  pub text_most : (P : Profile) (t : Oep060Timing) {es : List Event} → short_trace_of trace ≡ events es → length (table_of P es t) ≤ 65588
  text_most P t {es} e = table_most P (remaining trace 0) es t small (subst (Short (remaining trace 0)) (sym judged_same ∙ e) (short trace))

  run_judged : (room : Rooms) → Large room → judged_trace trace room ≡ short_trace_of trace
  unfolding judged_trace
  run_judged room big = rw judged_same (simp (le-ltb 16777216 (length trace) (omega arith)) (enough_room (remaining trace 0) room (length trace) (read_trace trace) small (short trace) big))

  -- a run that has room for the costs and the answers refuses no more
  pub run_small : (P : Profile) (lent : Runs) (t : Oep060Timing) → Large (rooms_of lent) → run_trace_of P trace lent t ≡ trace_outcome_of P (short_trace_of trace) lent t
  unfolding run_trace_of
  run_small P lent t big = ap (λ (said : Trace). trace_outcome_of P said lent t) (run_judged (rooms_of lent) big)

-- what is known of what a trace said
module _ (trace : List ℕ) where
  abbrev Told : Trace → Type 0
  Told (events es) = (read_trace trace ≡ events es) × Short 65536 (events es)
  Told (refused refusal) = Unit {0}

  told_small : (said : Trace) → read_trace trace ≡ said → length trace ≤ 65536 → Short (remaining trace 0) said → Told said
  told_small (events es) q h k = (q, (omega (arith, k.0), k.1))
  told_small (refused refusal) q h k = tt

  told : Told (short_trace_of trace)
  unfolding short_trace_of
  told =
      by_test Told (ltb 65536 (length trace)) _ _ (λ _. tt)
      (λ b. told_small (read_trace trace) refl (ltb-false 65536 (length trace) b) (short trace))

  -- what a run of it gave
  module _ (P : Profile) (lent left : Runs) (t : Oep060Timing) (ran : Ran) where
    abbrev Gave : Trace → Type 0
    Gave said = trace_outcome ran left ≡ trace_outcome_of P said lent t

    abbrev bytes : List ℕ
    bytes = left.costs

    lines : (es : List Event) → Raws es → Gave (events es) → lines_read 0 bytes es ≡ lines_from 0 (opcodes_of es) (costs_of P t es)
    unfolding put_at
    lines es w e = lines_costs P 0 bytes _ (state_of (seen_of t)) es w (ap (λ (o : TraceOutcome). o.lent.costs) e)

    ready : (said : Trace) → Told said → Gave said → {room : ℕ} → 13104 ≤ length bytes → 65600 ≤ room → Ready ran.verdict trace bytes room
    ready (events es) k e big r =
        let most = lines_most P 0 (state_of (seen_of t)) es k.1.1 (omega (arith, k.1.0)) in
        rw (ap (λ (o : TraceOutcome). o.ran.verdict) e, k.0)
        (omega (arith, k.1.0), omega (arith, k.1.0, ap length (lines es k.1.1 e)))
    ready (refused refusal) k e big r = rw (ap (λ (o : TraceOutcome). o.ran.verdict) e) (omega arith)

    whole : (said : Trace) → Told said → Gave said → (out : List ℕ) {n : ℕ} {after : List ℕ}
        → written n after ≡ written_of out 0 (printed ran.verdict trace bytes ran.count ran.total)
        → listing_outcome (record { verdict = ran.verdict; len = n; timing = ran.timing }) after ≡ listing_outcome_by P said out t
    whole (events es) k e out d =
        let v = ap (λ (o : TraceOutcome). o.ran.verdict) e in
        let c = ap (λ (o : TraceOutcome). o.ran.count) e in
        let s = ap (λ (o : TraceOutcome). o.ran.total) e in
        rw (v, ap (λ (o : TraceOutcome). o.ran.timing) e) (listed P (events es) out t (rw (v, k.0, lines es k.1.1 e, c, s) at d))
    whole (refused refusal) k e out d =
        let v = ap (λ (o : TraceOutcome). o.ran.verdict) e in
        rw (v, ap (λ (o : TraceOutcome). o.ran.timing) e) (listed P (refused refusal) out t (rw v at d))

  module _ (P : Profile) (lent : Runs) {left : Runs} (t : Oep060Timing) {ran : Ran} (e : trace_outcome ran left ≡ trace_outcome_of P (short_trace_of trace) lent t) where
    pub listed_ready : {room : ℕ} → 13104 ≤ length left.costs → 65600 ≤ room → Ready ran.verdict trace left.costs room
    listed_ready big r = ready P lent left t ran (short_trace_of trace) told e big r

    pub listed_whole : (out : List ℕ) {n : ℕ} {after : List ℕ}
        → written n after ≡ written_of out 0 (printed ran.verdict trace left.costs ran.count ran.total)
        → listing_outcome (record { verdict = ran.verdict; len = n; timing = ran.timing }) after ≡ listing_outcome_by P (short_trace_of trace) out t
    listed_whole out d = whole P lent left t ran (short_trace_of trace) told e out d
