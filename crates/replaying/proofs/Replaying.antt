-- The replay's text: the listing, and behind it the next state: its head's line, and its image in rows.
-- Assumes nothing.
use Prim.Native.Nat.{ℕ, ◌+◌, ◌≤◌}
use mathlib.Core.Path.{◌≡◌, refl, ap, ◌∙◌}
use mathlib.Core.List.{List, ◌++◌, append-nil}
use mathlib.Core.Bool.{Bool, true, false, cond}
use native.Mathlib.Omega.{arith}
use Rattle.std.specs.Prelude.{Result, Err}
use lib.ListN.{length, length-append, drop_of_length-le}
use borrow.Author.Tests.{le-ltb}
use Rattle.little_endian.specs.Numbers.{bytes_of, put_at, bytes_of_each}
use Rattle.text.specs.Hex.{hex_of, hex_long_of}
use Rattle.text.specs.Written.{text_of, newline, written, written_of}
use Rattle.text.proofs.Writing.{wrote, wrote_more, wrote_whole}
use Rattle.window.specs.declared.Window.{Window}
use Rattle.window.specs.Windows.{seen}
use Rattle.profile.specs.declared.Profile.{Profile}
use Rattle.state.specs.declared.Event.{Event}
use Rattle.state.specs.declared.Oep060Timing.{Oep060Timing}
use Rattle.refusals.specs.declared.Refusal.{Refusal}
use Rattle.refusals.specs.Verdict.{accepted}
use Rattle.records.specs.Trace.{Trace, events, refused}
use Rattle.image.specs.Bytes.{header_bytes, window_bytes, head_bytes}
use Rattle.image.proofs.ImageBytesWriting.{header_length}
use Rattle.image.specs.Image.{image_of}
use Rattle.image.specs.Entries.{image_outcome, ImageOutcome, image_write_of}
use Rattle.listing.specs.declared.Listed.{Listed}
use Rattle.listing.specs.Listing.{ListingOutcome, listing_outcome, listing_outcome_by, short_trace_of, table_of}
use Rattle.listing.proofs.Within.{text_fits, listed_text}
use Rattle.replaying.specs.HeadLine.{head_line}
use Rattle.replaying.specs.Replay.{image_lines, state_lines, shown}
use Rattle.replaying.proofs.Rows.{rows_length}
use Rattle.little_endian.proofs.Each.{each_length}

-- ---- the image that is written
pub image_long : (t : Oep060Timing) → length t.cache.tags ≡ 256 → length t.cache.state ≡ 256 → length (image_of t) ≡ 1294
unfolding image_of bytes_of
image_long t a b =
    let front : List ℕ = header_bytes ++ bytes_of_each 4 t.cache.tags in
    let all : List ℕ = front ++ bytes_of_each 1 t.cache.state in
    omega (
      arith,
      header_length,
      each_length 4 t.cache.tags,
      each_length 1 t.cache.state,
      length-append header_bytes (bytes_of_each 4 t.cache.tags),
      length-append front (bytes_of_each 1 t.cache.state),
      length-append all (window_bytes (seen t.window)),
      length-append (all ++ window_bytes (seen t.window)) (head_bytes (seen t.window)),
    )

pub image_fills : (t : Oep060Timing) (lent : List ℕ) → length lent ≡ 1294 → length t.cache.tags ≡ 256 → length t.cache.state ≡ 256
    → {w : Result ℕ Refusal} {bytes : List ℕ} → image_outcome w bytes ≡ image_write_of t lent → bytes ≡ image_of t
unfolding image_write_of put_at
image_fills t lent l a b e =
    let n = image_long t a b in
    let q = simp (le-ltb (length lent) 1294 (omega arith)) at (ap (λ (o : ImageOutcome). o.lent) e) in
    q ∙ rw (drop_of_length-le lent {i = 0 + length (image_of t)} (omega arith)) (append-nil (image_of t))

-- ---- the text
pub shown_refused : (P : Profile) (said : Trace) (out : List ℕ) (t : Oep060Timing) {r : Listed} {after : List ℕ} {refusal : Refusal}
    → listing_outcome r after ≡ listing_outcome_by P said out t → r.verdict ≡ Err refusal → written r.len after ≡ written_of out 0 (shown P said t)
shown_refused P (refused other) out t e v = listed_text P (refused other) out t e
shown_refused P (events es) out t e v =
    let u = ap (λ (o : ListingOutcome). o.answer.verdict) e in
    let z : ◌≡◌ {A = ℕ} 0 1 = cc in
    absurd (omega arith)

never : (P : Profile) (refusal : Refusal) (out : List ℕ) (t : Oep060Timing) {r : Listed} {after : List ℕ}
    → listing_outcome r after ≡ listing_outcome_by P (refused refusal) out t → r.verdict ≡ accepted → ⊥
never P refusal out t e v =
    let u = ap (λ (o : ListingOutcome). o.answer.verdict) e in
    let z : ◌≡◌ {A = ℕ} 0 1 = cc in
    omega arith

-- every text of this trace is short enough
abbrev Bound : Profile → Trace → Oep060Timing → Type 0
Bound P said t = (es : List Event) → said ≡ events es → length (table_of P es t) ≤ 65588

short : (P : Profile) (said : Trace) (out : List ℕ) (t : Oep060Timing) → Bound P said t → {r : Listed} {after : List ℕ}
    → listing_outcome r after ≡ listing_outcome_by P said out t → r.verdict ≡ accepted → r.len ≤ 65588
short P (events es) out t f e v = omega (arith, f es refl, ap (λ (o : ListingOutcome). o.answer.len) e)
short P (refused refusal) out t f e v = absurd (never P refusal out t e v)

-- a head's line has 22 characters or fewer
pub head_line_length : (w : Window) → length (head_line w) ≤ 22
head_line_length w = go w.opened
  where
    go : (o : Bool) → length (cond o (text_of "head " ++ hex_of w.op ++ text_of " at " ++ hex_long_of w.address ++ newline) (text_of "head none" ++ newline)) ≤ 22
    go true = omega arith
    go false = omega arith

state_length : (t : Oep060Timing) → length (image_of t) ≡ 1294 → length (state_lines t) ≤ 2651
state_length t l = omega (arith, length-append (head_line t.window) (image_lines t), head_line_length t.window, rows_length 41 (image_of t))

-- the state follows
rows : (P : Profile) (said : Trace) (out : List ℕ) (t : Oep060Timing) → 68258 ≤ length out → Bound P said t → {r : Listed} {after : List ℕ}
    → listing_outcome r after ≡ listing_outcome_by P said out t → r.verdict ≡ accepted → length (image_of r.timing) ≡ 1294
    → {n : ℕ} {last : List ℕ} → written n last ≡ written_of after r.len (state_lines r.timing)
    → written n last ≡ written_of out 0 (shown P said t)
rows P (events es) out t room f {r} e v l d =
    let b = f es refl in
    let w = wrote out 0 (table_of P es t) (omega arith) (listed_text P (events es) out t e) in
    wrote_whole (wrote_more w (state_lines r.timing) (omega (arith, w.place, state_length r.timing l)) d)
    ∙ ap (λ (x : Oep060Timing). written_of out 0 (table_of P es t ++ state_lines x)) (ap (λ (o : ListingOutcome). o.answer.timing) e)
rows P (refused refusal) out t room f e v l d = absurd (never P refusal out t e v)

module _ (P : Profile) (trace out : List ℕ) (t : Oep060Timing) {r : Listed} {after : List ℕ} (e : listing_outcome r after ≡ listing_outcome_by P (short_trace_of trace) out t) (v : r.verdict ≡ accepted) where
  bound : Bound P (short_trace_of trace) t
  bound es q = text_fits P trace t q

  pub replay_room : r.len ≤ 65588
  replay_room = short P (short_trace_of trace) out t bound e v

  pub replay_shown : 68258 ≤ length out → length r.timing.cache.tags ≡ 256 → length r.timing.cache.state ≡ 256
      → {n : ℕ} {last : List ℕ} → written n last ≡ written_of after r.len (state_lines r.timing)
      → written n last ≡ written_of out 0 (shown P (short_trace_of trace) t)
  replay_shown room a b d = rows P (short_trace_of trace) out t room bound e v (image_long r.timing a b) d
