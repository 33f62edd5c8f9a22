-- The text by the verdict on the trace, and its room.
-- Assumes nothing.
use Prim.Native.Nat.{ℕ, ◌+◌, ◌≤◌}
use mathlib.Core.Path.{◌≡◌, refl, sym, ap, ◌∙◌}
use mathlib.Core.Bool.{Bool, true, false}
use mathlib.Core.List.{List, ◌++◌}
use native.Mathlib.Omega.{arith}
use lib.Dec.{ltb}
use lib.ListN.{length}
use borrow.Author.Tests.{ltb-true, ltb-false}
use Rattle.text.specs.Written.{written, written_of}
use Rattle.text.proofs.Writing.{wrote, written_within}
use Rattle.refusals.specs.declared.Refusal.{Refusal}
use Rattle.std.specs.Prelude.{Err}
use Rattle.refusals.specs.Verdict.{accepted}
use Rattle.records.specs.Trace.{Trace, events, refused, read_trace}
use Rattle.records.specs.Judged.{verdict_of}
use Rattle.listing.specs.Lines.{refusal_line}
use Rattle.listing.specs.Listing.{short_trace_of}
use Rattle.listing.proofs.Listing.{judged_large, judged_same}
use Rattle.showing.specs.Lines.{header_line, end_line}
use Rattle.showing.specs.Inner.{lines_of}
use Rattle.showing.specs.Showing.{shown_by, shown_of}
use Rattle.showing.proofs.Lengths.{end_most}
use Rattle.showing.proofs.Reading.{lines_most}
use Rattle.showing.proofs.Going.{not_both_lem}

by_refused : (size : ℕ) (said : Trace) {refusal : Refusal} → verdict_of said ≡ Err refusal → shown_by size said ≡ refusal_line refusal
by_refused size (events es) v = absurd (not_both_lem (sym v))
by_refused size (refused other) {refusal} v = let q : other ≡ refusal = cc in ap refusal_line q

by_accepted : (size : ℕ) (said : Trace) → verdict_of said ≡ accepted → shown_by size said ≡ header_line ++ lines_of 0 said ++ end_line size
by_accepted size (events es) v = refl
by_accepted size (refused other) v = absurd (not_both_lem v)

module _ (trace : List ℕ) where
  pub shown_refused : {refusal : Refusal} → verdict_of (short_trace_of trace) ≡ Err refusal → shown_of trace ≡ refusal_line refusal
  shown_refused v = by_refused (length trace) (short_trace_of trace) v

  module _ (v : verdict_of (short_trace_of trace) ≡ accepted) where
    -- only a trace within the limit is accepted
    limit : length trace ≤ 65536
    limit = go (ltb 65536 (length trace)) refl
      where
        go : (b : Bool) → ltb 65536 (length trace) ≡ b → length trace ≤ 65536
        go true q = absurd (not_both_lem (sym (ap verdict_of (judged_large trace (ltb-true 65536 (length trace) q))) ∙ v))
        go false q = ltb-false 65536 (length trace) q

    pub shown_sound : verdict_of (read_trace trace) ≡ accepted
    shown_sound = sym (ap verdict_of (judged_same trace limit)) ∙ v

    pub shown_room : length (lines_of 0 (read_trace trace)) + 37 + length (end_line (length trace)) ≤ 278600
    shown_room = omega (arith, limit, lines_most trace limit, end_most (length trace) limit)

    pub shown_whole : header_line ++ lines_of 0 (read_trace trace) ++ end_line (length trace) ≡ shown_of trace
    shown_whole = sym (ap (shown_by (length trace)) (judged_same trace limit) ∙ by_accepted (length trace) (read_trace trace) shown_sound)

-- the text lies within the lent bytes
pub within : (out text : List ℕ) {next : ℕ} {after : List ℕ} → written next after ≡ written_of out 0 text → length after ≡ length out
    → next ≤ length after
within out text e same =
    let room = written_within out 0 text (omega arith) e same in
    omega (arith, same, (wrote out 0 text room e).place)
