-- Refusals 2 to 6 are given then and only then when the table of document 01 says so, and else the record is sound.
-- Assumes nothing.
use Prim.Native.Nat.{ℕ, ◌+◌, ◌≤◌, ◌<◌}
use mathlib.Core.Path.{◌≡◌, refl, sym, ap, subst, ◌∙◌}
use mathlib.Core.Bool.{true, not, true≢false}
use mathlib.Core.List.{List}
use native.Mathlib.Omega.{arith}
use lib.Dec.{eqb, ltb}
use lib.ListN.{length}
use borrow.Author.Tests.{lt-ltb, ltb-true, ltb-false, eqb-true, eqb-false, not-true, not-false}
use Rattle.std.specs.Prelude.{Some, None, Result, Ok, Err}
use Rattle.refusals.specs.Verdict.{Verdict}
use Rattle.records.specs.declared.kinds.UnknownKind.{UnknownKind}
use Rattle.state.specs.declared.Event.{Event}
use Rattle.refusals.specs.declared.Refusal.{Refusal}
use Rattle.refusals.specs.declared.Refusal.TheVariants.{Remainder, WrongKind, WrongLength, Cut, Flag}
use Rattle.records.specs.declared.kinds.Kind.{Kind}
use Rattle.records.specs.declared.kinds.Kind.TheVariants.{Retirement, Break, ClearAll, ClearUser}
use Rattle.records.specs.Kinds.{payload_length, kind_of}
use Rattle.records.specs.Faults.{next_place, high_flag, fault_at}
use Rattle.records.specs.Record.{Read, got, remaining, event_at, taken_by, record_at, body_at, read_at}
use Rattle.records.specs.RecordTable.{Headed, Faulty, row2, row3, row4, row5, row6, Whole, whole}
use Rattle.records.proofs.Choices.{by_test}
use Rattle.records.proofs.KindNumbers.{Says, kind_says, kind_missing}
use Rattle.records.proofs.Reading.{read_remainder, read_body, read_kind, record_length, record_cut, record_flag, record_whole}
use Rattle.records.specs.Layout.{length_at, kind_at}
use Rattle.refusals.specs.Refusals.{number_of, place_of}
use Rattle.refusals.proofs.Told.{Told}

module _ (trace : List ℕ) (at : ℕ) where
  -- then
  abbrev ReadBad : Refusal → Type 0
  ReadBad refusal = read_at trace at ≡ Err refusal

  said : (refusal : Refusal) → place_of refusal ≡ at → ReadBad refusal → Told (number_of refusal) at ReadBad
  said refusal p q = record { refusal = refusal; number = refl; place = p; so = q }

  pub faulty_then : {n : ℕ} → Faulty trace at n → Told n at (λ refusal. read_at trace at ≡ Err refusal)
  faulty_then (row2 a b) = said (Remainder at) refl (read_remainder trace at a b)
  faulty_then (row3 n h) = said (WrongKind at) refl (read_body trace at h ∙ ap (body_at trace at) (kind_missing (kind_at trace at) n))
  faulty_then (row4 kind n h) = said (WrongLength at) refl (read_kind trace at kind h.0 h.1 ∙ record_length trace at kind n)
  faulty_then (row5 kind c h e) = said (Cut at) refl (read_kind trace at kind h.0 h.1 ∙ record_cut trace at kind e (omega arith))
  faulty_then (row6 f h e w) =
      said (Flag at) refl (read_kind trace at Retirement h.0 h.1 ∙ record_flag trace at Retirement e (omega arith) (lt-ltb _ _ f))

  pub whole_then : {e : Event} {next : ℕ} → Whole trace at e next → read_at trace at ≡ got e next
  whole_then (whole kind h e w f) = read_kind trace at kind h.0 h.1 ∙ record_whole trace at kind e (omega arith) f

  -- only then: what was read says what stands there
  abbrev pub Explained : Read → Type 0
  Explained (Ok None) = remaining trace at ≡ 0
  Explained (Err refusal) = Faulty trace at (number_of refusal) × (place_of refusal ≡ at)
  Explained (Ok (Some (e, next))) = Whole trace at e next

  flagged : (kind : Kind) → Headed trace at kind → length_at trace at ≡ payload_length kind → 4 + payload_length kind ≤ remaining trace at → high_flag trace at kind ≡ true
      → Faulty trace at 6
  flagged Retirement h e w f = row6 (ltb-true _ _ f) h e w
  flagged Break h e w f = absurd (true≢false (sym f))
  flagged ClearAll h e w f = absurd (true≢false (sym f))
  flagged ClearUser h e w f = absurd (true≢false (sym f))

  record_explained : (kind : Kind) → Headed trace at kind → Explained (record_at trace at kind)
  unfolding record_at fault_at
  record_explained kind h =
      let Said : Verdict → Type 0 = λ v. Explained (taken_by v (event_at trace at kind) (next_place at kind)) in
      by_test Said (not (eqb (length_at trace at) (payload_length kind))) _ _
      (λ t. (row4 kind (eqb-false _ _ (not-true _ t)) h, refl))
      (λ t.
      let e : length_at trace at ≡ payload_length kind = eqb-true _ _ (not-false _ t) in
      by_test Said (ltb (length trace) (next_place at kind)) _ _
      (λ c. let l : length trace < next_place at kind = ltb-true _ _ c in (row5 kind (omega arith) h e, refl))
      (λ c.
      let l : next_place at kind ≤ length trace = ltb-false _ _ c in
      let w : 4 + payload_length kind ≤ remaining trace at = omega arith in
      by_test Said (high_flag trace at kind) _ _ (λ f. (flagged kind h e w f, refl)) (whole kind h e w)))

  body_explained : 4 ≤ remaining trace at → (kind : Result Kind UnknownKind) → Says (kind_at trace at) kind → Explained (body_at trace at kind)
  body_explained h (Err none) n = (row3 n h, refl)
  body_explained h (Ok kind) e = record_explained kind (h, e)

  pub read_explained : Explained (read_at trace at)
  unfolding read_at
  read_explained =
      by_test Explained (eqb (remaining trace at) 0) _ _ (eqb-true _ _)
      (λ z.
      by_test Explained (ltb (remaining trace at) 4) _ _
      (λ l. let few : remaining trace at < 4 = ltb-true _ _ l in (row2 (omega (arith, eqb-false (remaining trace at) 0 z)) (omega arith), refl))
      (λ l. body_explained (ltb-false _ _ l) (kind_of (kind_at trace at)) (kind_says (kind_at trace at))))

  pub faulty_only : {refusal : Refusal} → read_at trace at ≡ Err refusal → Faulty trace at (number_of refusal) × (place_of refusal ≡ at)
  faulty_only q = subst Explained q read_explained

  pub whole_only : {e : Event} {next : ℕ} → read_at trace at ≡ got e next → Whole trace at e next
  whole_only q = subst Explained q read_explained
