-- The text of a listing lies within the lent bytes, and that of an accepted trace leaves room for an image.
-- Assumes nothing.
use Prim.Native.Nat.{ℕ, ◌≤◌}
use mathlib.Core.Path.{◌≡◌, refl, ap}
use mathlib.Core.Bool.{Bool, true, false}
use mathlib.Core.List.{List}
use native.Mathlib.Nat.{zero-add}
use native.Mathlib.Omega.{arith}
use lib.Dec.{ltb}
use lib.ListN.{length}
use borrow.Author.Tests.{ltb-true, ltb-false}
use Rattle.text.specs.Written.{written, written_of}
use Rattle.text.proofs.Writing.{written_within}
use Rattle.profile.specs.declared.Profile.{Profile}
use Rattle.state.specs.declared.Event.{Event}
use Rattle.state.specs.declared.Oep060Timing.{Oep060Timing}
use Rattle.records.specs.Trace.{Trace, events}
use Rattle.listing.specs.declared.Listed.{Listed}
use Rattle.listing.specs.Listing.{ListingOutcome, short_trace_of, table_of, text_by, listing_outcome, listing_outcome_by}
use Rattle.listing.proofs.Listing.{judged_large, text_most}

-- only a trace within the limit is accepted
pub text_fits : (P : Profile) (trace : List ℕ) (t : Oep060Timing) {es : List Event} → short_trace_of trace ≡ events es → length (table_of P es t) ≤ 65588
text_fits P trace t {es} e = go (ltb 65536 (length trace)) refl
  where
    go : (b : Bool) → ltb 65536 (length trace) ≡ b → length (table_of P es t) ≤ 65588
    go true q =
        let large = judged_large trace (ltb-true 65536 (length trace) q) in
        let z : ◌≡◌ {A = ℕ} 0 1 = cc in
        absurd (omega arith)
    go false q = text_most trace (ltb-false 65536 (length trace) q) P t e

pub listed_text : (P : Profile) (said : Trace) (out : List ℕ) (t : Oep060Timing) {r : Listed} {after : List ℕ} → listing_outcome r after ≡ listing_outcome_by P said out t
    → written r.len after ≡ written_of out 0 (text_by P said t)
unfolding written_of
listed_text P said out t e = rw (ap (λ (o : ListingOutcome). o.answer.len) e, ap (λ (o : ListingOutcome). o.lent) e, zero-add (length (text_by P said t)))

-- the text lies within the lent bytes
pub listed_within : (P : Profile) (said : Trace) (out : List ℕ) (t : Oep060Timing) {r : Listed} {after : List ℕ} → listing_outcome r after ≡ listing_outcome_by P said out t
    → length after ≡ length out → r.len ≤ length out
listed_within P said out t e same =
    omega (arith, ap (λ (o : ListingOutcome). o.answer.len) e, written_within out 0 (text_by P said t) (omega arith) (listed_text P said out t e) same)
