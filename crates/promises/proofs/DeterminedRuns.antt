-- The promise of each public function of part 6 of document 01, as the checker reads it, allows one answer at each input, lent bytes included.
-- Assumes nothing.
use mathlib.Core.Path.{◌≡◌, refl, sym, ap, ap₂, ◌∙◌}
use mathlib.Core.List.{List}
use Prim.Native.Nat.{ℕ}
use native.Mathlib.Omega.{arith}
use lib.ListN.{length}
use contract.Lifetimes
use Rattle.std.specs.Prelude.{Option, Some, None, Ok, Err}
use mir.Syntax.{w64}
use mir.Val.{Fits}
use Rattle.refusals.specs.Runs.{runs}
use Rattle.trace.specs.Run.{trace_outcome}
use Rattle.image.specs.Entries.{image_outcome}
use Rattle.text.specs.Written.{written}
use Rattle.listing.specs.Listing.{listing_outcome}
use Rattle.profile.specs.declared.Profile.{Profile}
use Rattle.profile.specs.declared.Profile.TheVariants.{Crate, Mended}
use Rattle.input.specs.Words.{Names, CRATE, MENDED}
use Rattle.promises.specs.Determined.{Determined, result}
use Rattle.little_endian.proofs.u16_at.Reads as little-endian-u16-at
use Rattle.little_endian.proofs.u32_at.Reads as little-endian-u32-at
use Rattle.little_endian.proofs.i32_of.Reads as little-endian-i32-of
use Rattle.little_endian.proofs.put_u16.Reads as little-endian-put-u16
use Rattle.little_endian.proofs.put_u32.Reads as little-endian-put-u32
use Rattle.records.proofs.kinds.KindTryFromU16.try_from.Reads as records-kind-try-from-u16
use Rattle.records.proofs.read_record.Reads as records-read-record
use Rattle.records.proofs.events_of.Reads as records-events-of
use Rattle.records.proofs.events.EventsIterator.next.Reads as records-events-next
use Rattle.records.specs.declared.events.Events.{Events}
use Rattle.records.specs.Record.{Read, got, ended, read_at, Unrefused}
use Rattle.records.specs.Walk.{Gives}
use Rattle.state.specs.declared.Event.{Event}
use Rattle.records.proofs.whole_at.Reads as records-whole-at
use Rattle.records.proofs.retirement_at.Reads as records-retirement-at
use Rattle.records.proofs.check_all.Reads as records-check-all
use Rattle.records.proofs.judge_trace.Reads as records-judge-trace
use Rattle.in_place.proofs.see_window.Reads as in-place-see-window
use Rattle.trace.proofs.run_trace.Reads as trace-run-trace
use Rattle.image.proofs.image_write.Reads as image-image-write
use Rattle.image.proofs.image_read.Reads as image-image-read
use Rattle.input.proofs.profile_named.Reads as input-profile-named
use Rattle.text.proofs.put_bytes.Reads as text-put-bytes
use Rattle.text.proofs.put_hex.Reads as text-put-hex
use Rattle.text.proofs.put_decimal.Reads as text-put-decimal
use Rattle.text.proofs.put_signed.Reads as text-put-signed
use Rattle.listing.proofs.put_refusal.Reads as listing-put-refusal
use Rattle.listing.proofs.put_total.Reads as listing-put-total
use Rattle.listing.proofs.list_into.Reads as listing-list-into
use Rattle.listing.proofs.list_trace.Reads as listing-list-trace
use Rattle.replaying.proofs.replay_text.Reads as replaying-replay-text
use Rattle.showing.proofs.judge_short.Reads as showing-judge-short
use Rattle.showing.proofs.show_trace.Reads as showing-show-trace
use Rattle.rule_text.proofs.put_page.Reads as rule-text-put-page
use Rattle.batch.proofs.batch_verdict.Reads as batch-batch-verdict

module _ (κs : Lifetimes.Lfts 0) where
  pub batch_batch_verdict_determined : Determined result (batch-batch-verdict.Post κs)
  batch_batch_verdict_determined i r r' x x' p q = p ∙ sym q

  pub records_kind_try_from_u16_determined : Determined result (records-kind-try-from-u16.Post κs)
  records_kind_try_from_u16_determined i r r' x x' p q = p ∙ sym q

  pub little_endian_i32_of_determined : Determined result (little-endian-i32-of.Post κs)
  little_endian_i32_of_determined i r r' x x' p q = p ∙ sym q

-- a word names one thing: the two words differ, and nothing is both named and unknown
words_differ : CRATE ≡ MENDED → ⊥
words_differ e = absurd (omega (arith, ap length e))

names_one : (word : List ℕ) (w w' : Option Profile) → Names word w → Names word w' → w ≡ w'
names_one word (Some Crate) (Some Crate) p q = refl
names_one word (Some Mended) (Some Mended) p q = refl
names_one word None None p q = refl
names_one word (Some Crate) (Some Mended) p q = absurd (words_differ (sym p ∙ q))
names_one word (Some Mended) (Some Crate) p q = absurd (words_differ (sym q ∙ p))
names_one word (Some Crate) None p q = absurd (q.0 p)
names_one word (Some Mended) None p q = absurd (q.1 p)
names_one word None (Some Crate) p q = absurd (p.0 q)
names_one word None (Some Mended) p q = absurd (p.1 q)

-- a walk that gives a record has not ended there
not_ended : (trace : List ℕ) (at : ℕ) {e : Event} {n : ℕ} → read_at trace at ≡ got e n → (Unrefused trace at → read_at trace at ≡ ended) → ⊥
not_ended trace at q end =
    let taken : Unrefused trace at = λ refusal p. (let z : ◌≡◌ {A = ℕ} 0 1 = cc in omega arith) in
    let over : read_at trace at ≡ ended = end taken in
    let z : ◌≡◌ {A = ℕ} 0 1 = cc in
    omega arith

-- what was read, or else another
abbrev given : ℕ × Event → Read → ℕ × Event
given x (Ok (Some (e, next))) = (next, e)
given x (Ok None) = x
given x (Err refusal) = x

gives_one : (old : Events) (o o' : Option (ℕ × Event)) (new new' : Events) → Gives old o new → Gives old o' new' → o ≡ o'
gives_one old None None new new' p q = refl
gives_one old None (Some x) new new' p q = absurd (not_ended old.trace.now old.at q.0 p.0)
gives_one old (Some x) None new new' p q = absurd (not_ended old.trace.now old.at p.0 q.0)
gives_one old (Some (at, e)) (Some (at', e')) new new' p q =
    ap₂ (λ n f. Some (n, f)) (p.1 ∙ sym q.1) (ap (λ r. (given (0, e) r).1) (sym p.0 ∙ q.0))

gives_place : (old : Events) (o o' : Option (ℕ × Event)) (new new' : Events) → Gives old o new → Gives old o' new' → new.at ≡ new'.at
gives_place old None None new new' p q = p.1 ∙ sym q.1
gives_place old None (Some x) new new' p q = absurd (not_ended old.trace.now old.at q.0 p.0)
gives_place old (Some x) None new new' p q = absurd (not_ended old.trace.now old.at p.0 q.0)
gives_place old (Some (at, e)) (Some (at', e')) new new' p q = ap (λ r. (given (0, e) r).0) (sym p.0 ∙ q.0)

module _ (κs : Lifetimes.Lfts 1) where
  pub input_profile_named_determined : Determined result (input-profile-named.Post κs)
  input_profile_named_determined i r r' x x' p q = names_one i.0.now r r' p q

  pub little_endian_u16_at_determined : Determined result (little-endian-u16-at.Post κs)
  little_endian_u16_at_determined i r r' x x' p q = p ∙ sym q

  pub little_endian_u32_at_determined : Determined result (little-endian-u32-at.Post κs)
  little_endian_u32_at_determined i r r' x x' p q = p ∙ sym q

  pub little_endian_put_u16_determined : Determined (λ r x. x.0.now) (little-endian-put-u16.Post κs)
  little_endian_put_u16_determined i r r' x x' p q = p ∙ sym q

  pub little_endian_put_u32_determined : Determined (λ r x. x.0.now) (little-endian-put-u32.Post κs)
  little_endian_put_u32_determined i r r' x x' p q = p ∙ sym q

  pub records_whole_at_determined : Determined result (records-whole-at.Post κs)
  records_whole_at_determined i r r' x x' p q = p ∙ sym q

  pub records_retirement_at_determined : Determined result (records-retirement-at.Post κs)
  records_retirement_at_determined i r r' x x' p q = p ∙ sym q

  pub records_read_record_determined : Determined result (records-read-record.Post κs)
  records_read_record_determined i r r' x x' p q = p ∙ sym q

  -- a walk is its trace and its place
  pub records_events_of_trace_determined : Determined (λ r x. r.trace.now) (records-events-of.Post κs)
  records_events_of_trace_determined i r r' x x' p q = p.0 ∙ sym q.0

  pub records_events_of_at_determined : Determined (λ r x. r.at) (records-events-of.Post κs)
  records_events_of_at_determined i r r' x x' p q = p.1 ∙ sym q.1

  pub records_check_all_determined : Determined result (records-check-all.Post κs)
  records_check_all_determined i r r' x x' p q = p ∙ sym q

  pub records_judge_trace_determined : Determined result (records-judge-trace.Post κs)
  records_judge_trace_determined i r r' x x' p q = p ∙ sym q

  pub in_place_see_window_determined : Determined (λ r x. x.0.now) (in-place-see-window.Post κs)
  in_place_see_window_determined i r r' x x' p q = p ∙ sym q

  pub image_image_write_determined : Determined (λ r x. image_outcome r x.1.0.now) (image-image-write.Post κs)
  image_image_write_determined i r r' x x' p q = p ∙ sym q

  pub image_image_read_determined : Determined result (image-image-read.Post κs)
  image_image_read_determined i r r' x x' p q = p ∙ sym q

  pub rule_text_put_page_determined : Determined (λ r x. written r x.0.now) (rule-text-put-page.Post κs)
  rule_text_put_page_determined i r r' x x' p q = p.0 ∙ sym q.0

module _ (κs : Lifetimes.Lfts 3) where
  pub trace_run_trace_determined : Determined (λ r x. trace_outcome r (runs x.1.0.now x.1.1.0.now)) (trace-run-trace.Post κs)
  trace_run_trace_determined i r r' x x' p q = p ∙ sym q

-- what a walk gives, and where it goes on
module _ (κs : Lifetimes.Lfts 2) where
  pub records_events_next_determined : Determined result (records-events-next.Post κs)
  records_events_next_determined i r r' x x' p q = gives_one i.0.now r r' x.0.now x'.0.now p.0 q.0

  pub records_events_next_at_determined : Determined (λ r x. x.0.now.at) (records-events-next.Post κs)
  records_events_next_at_determined i r r' x x' p q = gives_place i.0.now r r' x.0.now x'.0.now p.0 q.0

-- of any number of digits
module _ (DIGITS : ℕ) (fits : Fits w64 DIGITS) (κs : Lifetimes.Lfts 2) where
  pub text_put_hex_determined : Determined (λ r x. written r x.0.now) (text-put-hex.Post DIGITS fits κs)
  text_put_hex_determined i r r' x x' p q = p ∙ sym q

-- what the tools print
module _ (κs : Lifetimes.Lfts 1) where
  pub text_put_decimal_determined : Determined (λ r x. written r x.0.now) (text-put-decimal.Post κs)
  text_put_decimal_determined i r r' x x' p q = p ∙ sym q

  pub text_put_signed_determined : Determined (λ r x. written r x.0.now) (text-put-signed.Post κs)
  text_put_signed_determined i r r' x x' p q = p ∙ sym q

  pub showing_judge_short_determined : Determined result (showing-judge-short.Post κs)
  showing_judge_short_determined i r r' x x' p q = p ∙ sym q

  pub listing_put_refusal_determined : Determined (λ r x. written r x.0.now) (listing-put-refusal.Post κs)
  listing_put_refusal_determined i r r' x x' p q = p ∙ sym q

  pub listing_put_total_determined : Determined (λ r x. written r x.0.now) (listing-put-total.Post κs)
  listing_put_total_determined i r r' x x' p q = p ∙ sym q

module _ (κs : Lifetimes.Lfts 2) where
  pub text_put_bytes_determined : Determined (λ r x. written r x.0.now) (text-put-bytes.Post κs)
  text_put_bytes_determined i r r' x x' p q = p ∙ sym q

  pub listing_list_into_determined : Determined (λ r x. listing_outcome r x.1.0.now) (listing-list-into.Post κs)
  listing_list_into_determined i r r' x x' p q = p ∙ sym q

  pub listing_list_trace_determined : Determined (λ r x. listing_outcome r x.1.0.now) (listing-list-trace.Post κs)
  listing_list_trace_determined i r r' x x' p q = p.0 ∙ sym q.0

  pub replaying_replay_text_determined : Determined (λ r x. written r x.1.0.now) (replaying-replay-text.Post κs)
  replaying_replay_text_determined i r r' x x' p q = p.0 ∙ sym q.0

  pub showing_show_trace_determined : Determined (λ r x. written r x.1.0.now) (showing-show-trace.Post κs)
  showing_show_trace_determined i r r' x x' p q = p.0 ∙ sym q.0
