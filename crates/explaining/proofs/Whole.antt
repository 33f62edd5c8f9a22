-- The text by the verdict on the trace: the state that the run starts from, and the room for a short trace.
-- Assumes nothing.
use Prim.Native.Nat.{ℕ, ◌+◌, ◌*◌, ◌≤◌}
use mathlib.Core.Path.{◌≡◌, refl, sym, ap, ◌∙◌}
use mathlib.Core.Bool.{Bool, true, false}
use mathlib.Core.List.{List, [], ◌∷◌}
use native.Mathlib.Omega.{arith}
use lib.Dec.{ltb}
use lib.ListN.{length, length-append}
use borrow.Author.Tests.{ltb-true, ltb-false}
use Rattle.window.specs.declared.Window.{Window}
use Rattle.window.specs.Windows.{seen}
use Rattle.profile.specs.declared.Profile.{Profile}
use Rattle.state.specs.declared.Event.{Event}
use Rattle.state.specs.declared.Event.TheVariants.{Retired, Broken, ClearedAll, ClearedUser}
use Rattle.state.specs.declared.Oep060Timing.{Oep060Timing}
use Rattle.state.specs.Events.{State, retiring_of, after, retirements, count_of}
use Rattle.state.specs.CrateCache.{crate_cache}
use Rattle.state.specs.Timing.{state_of, seen_of, timing_at}
use Rattle.step.specs.Boards.{board_of}
use Rattle.in_place.specs.WindowNumbers.{window_at, numbers_of}
use Rattle.in_place.specs.Lent.{lent, state_at}
use Rattle.in_place.proofs.NumbersHeld.{window_held}
use Rattle.refusals.specs.declared.Refusal.{Refusal}
use Rattle.std.specs.Prelude.{Err}
use Rattle.refusals.specs.Verdict.{accepted}
use Rattle.records.specs.Record.{remaining}
use Rattle.records.specs.Trace.{Trace, events, refused, read_trace}
use Rattle.records.specs.Judged.{verdict_of}
use Rattle.listing.specs.Lines.{refusal_line}
use Rattle.listing.specs.Listing.{short_trace_of}
use Rattle.listing.proofs.Listing.{judged_large, judged_same}
use Rattle.listing.proofs.Costs.{cost_most}
use Rattle.listing.proofs.Reading.{Short, Raws, short}
use Rattle.showing.proofs.Going.{not_both_lem}
use Rattle.reasons.specs.Explain.{explained_of}
use Rattle.explaining.specs.WhyLines.{why_line, why_lines}
use Rattle.explaining.specs.Why.{why_text_by, why_of}
use Rattle.explaining.specs.Inner.{met_by}
use Rattle.explaining.proofs.Lengths.{line_most}
use Rattle.explaining.proofs.Meeting.{Few}

-- the numbers that are lent for a state as it is read
pub seen_lent : (t : Oep060Timing) {w : Window} → w ≡ seen t.window → {ns : List ℕ} → ns ≡ numbers_of w → state_at (lent t.cache.tags t.cache.state ns) ≡ seen_of t
seen_lent t {w} e f = ap (timing_at t.cache.tags t.cache.state) (ap window_at f ∙ window_held w ∙ e)

-- 115 characters a line
lines_most : (full : Bool) (p : Profile) (i : ℕ) (s : State crate_cache) (es : List Event) → Raws es → i + count_of es ≤ 10000
    → length (why_lines full i (retirements (board_of p) s es)) ≤ 115 * count_of es
unfolding why_lines retirements
lines_most full p i s [] w h = omega arith
lines_most full p i s (Retired r ∷ es) w h =
    let met = retiring_of (board_of p) s r in
    let t : State crate_cache = after (board_of p) s (Retired r) in
    omega (
      arith,
      length-append (why_line full i r.op (explained_of met)) (why_lines full (i + 1) (retirements (board_of p) t es)),
      line_most full i r.op (explained_of met) (omega arith) (cost_most met w.0),
      lines_most full p (i + 1) t es w.1 (omega arith),
    )
lines_most full p i s (Broken ∷ es) w h = lines_most full p i (after (board_of p) s Broken) es w.1 h
lines_most full p i s (ClearedAll ∷ es) w h = lines_most full p i (after (board_of p) s ClearedAll) es w.1 h
lines_most full p i s (ClearedUser ∷ es) w h = lines_most full p i (after (board_of p) s ClearedUser) es w.1 h

few_so : (size : ℕ) (said : Trace) → size ≤ 65536 → Short size said → verdict_of said ≡ accepted → Few 0 said
few_so size (events es) h q v = omega (arith, q.0)
few_so size (refused refusal) h q v = absurd (not_both_lem v)

room_so : (full : Bool) (p : Profile) (t : Oep060Timing) (size : ℕ) (said : Trace) → size ≤ 65536 → Short size said → length (why_lines full 0 (met_by p t said)) ≤ 376740
unfolding why_lines
room_so full p t size (events es) h q = omega (arith, q.0, lines_most full p 0 (state_of t) es q.1 (omega (arith, q.0)))
room_so full p t size (refused refusal) h q = omega arith

by_refused : (full : Bool) (p : Profile) (said : Trace) (t : Oep060Timing) {refusal : Refusal} → verdict_of said ≡ Err refusal → why_text_by full p said t ≡ refusal_line refusal
by_refused full p (events es) t v = absurd (not_both_lem (sym v))
by_refused full p (refused other) t {refusal} v = let q : other ≡ refusal = cc in ap refusal_line q

module _ (full : Bool) (p : Profile) (trace : List ℕ) (t : Oep060Timing) where
  pub why_refused : {refusal : Refusal} → verdict_of (short_trace_of trace) ≡ Err refusal → why_of full p trace t ≡ refusal_line refusal
  why_refused v = by_refused full p (short_trace_of trace) t v

  module _ (v : verdict_of (short_trace_of trace) ≡ accepted) where
    -- only a trace within the limit is accepted
    limit : length trace ≤ 65536
    limit = go (ltb 65536 (length trace)) refl
      where
        go : (b : Bool) → ltb 65536 (length trace) ≡ b → length trace ≤ 65536
        go true q = absurd (not_both_lem (sym (ap verdict_of (judged_large trace (ltb-true 65536 (length trace) q))) ∙ v))
        go false q = ltb-false 65536 (length trace) q

    small : remaining trace 0 ≤ 65536
    small = omega (arith, limit)

    pub why_few : Few 0 (read_trace trace)
    why_few = few_so (remaining trace 0) (read_trace trace) small (short trace) (sym (ap verdict_of (judged_same trace limit)) ∙ v)

    pub why_room : length (why_lines full 0 (met_by p (seen_of t) (read_trace trace))) + 579 ≤ 377319
    why_room = omega (arith, room_so full p (seen_of t) (remaining trace 0) (read_trace trace) small (short trace))

    pub why_whole : why_text_by full p (read_trace trace) t ≡ why_of full p trace t
    why_whole = ap (λ (said : Trace). why_text_by full p said t) (sym (judged_same trace limit))
