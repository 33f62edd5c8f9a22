-- What stands at a place of a trace, by what holds of the bytes there; and a record that was read ends within the trace.
-- Assumes nothing.
use Prim.Native.Nat.{ℕ, ◌≤◌, ◌<◌}
use mathlib.Core.Path.{◌≡◌, refl, ap, subst, ◌∙◌}
use mathlib.Core.Bool.{true, false, not}
use mathlib.Core.List.{List}
use native.Mathlib.Omega.{arith}
use lib.Dec.{eqb, ltb}
use lib.ListN.{length}
use borrow.Author.Tests.{lt-ltb, le-ltb, eq-eqb, ne_eqb, ltb-false}
use Rattle.std.specs.Prelude.{Some, None, Result, Ok, Err}
use Rattle.refusals.specs.Verdict.{Verdict}
use Rattle.records.specs.declared.kinds.UnknownKind.{UnknownKind}
use Rattle.state.specs.declared.Event.{Event}
use Rattle.refusals.specs.declared.Refusal.TheVariants.{Remainder, WrongLength, Cut, Flag}
use Rattle.records.specs.declared.kinds.Kind.{Kind}
use Rattle.records.specs.declared.kinds.Kind.TheVariants.{Retirement, Break, ClearAll, ClearUser}
use Rattle.records.specs.Kinds.{kind_number, payload_length, kind_of}
use Rattle.records.specs.Faults.{next_place, high_flag, fault_at}
use Rattle.records.proofs.FaultsLaws.{fault_length, fault_cut, fault_flag, fault_none}
use Rattle.records.specs.Record.{Read, got, ended, remaining, event_at, kind_of_event, taken_by, record_at, body_at, read_at}
use Rattle.records.proofs.Choices.{by_test}
use Rattle.records.proofs.KindNumbers.{kind_found}
use Rattle.records.specs.Layout.{length_at, kind_at}

module _ (trace : List ℕ) (at : ℕ) where
  pub read_end : length trace ≤ at → read_at trace at ≡ ended
  unfolding read_at
  read_end h = simp (eq-eqb (remaining trace at) 0 (omega arith))

  pub read_remainder : 1 ≤ remaining trace at → remaining trace at ≤ 3 → read_at trace at ≡ Err (Remainder at)
  unfolding read_at
  read_remainder a b = simp (ne_eqb (remaining trace at) 0 (λ e. omega arith), lt-ltb (remaining trace at) 4 (omega arith))

  -- past the head
  pub read_body : 4 ≤ remaining trace at → read_at trace at ≡ body_at trace at (kind_of (kind_at trace at))
  unfolding read_at
  read_body h = simp (ne_eqb (remaining trace at) 0 (λ e. omega arith), le-ltb (remaining trace at) 4 h)

  pub read_kind : (kind : Kind) → 4 ≤ remaining trace at → kind_at trace at ≡ kind_number kind → read_at trace at ≡ record_at trace at kind
  read_kind kind h e = read_body h ∙ ap (body_at trace at) (kind_found kind e)

  module _ (kind : Kind) where
    -- what the verdict makes of it
    pub record_by : {verdict : Verdict} → fault_at trace at kind ≡ verdict → record_at trace at kind ≡ taken_by verdict (event_at trace at kind) (next_place at kind)
    unfolding record_at
    record_by q = ap (λ (v : Verdict). taken_by v (event_at trace at kind) (next_place at kind)) q

    pub record_length : (length_at trace at ≡ payload_length kind → ⊥) → record_at trace at kind ≡ Err (WrongLength at)
    record_length n = record_by (fault_length trace at kind n)

    module _ (right : length_at trace at ≡ payload_length kind) where
      pub record_cut : length trace < next_place at kind → record_at trace at kind ≡ Err (Cut at)
      record_cut h = record_by (fault_cut trace at kind right h)

      module _ (whole : next_place at kind ≤ length trace) where
        pub record_flag : high_flag trace at kind ≡ true → record_at trace at kind ≡ Err (Flag at)
        record_flag h = record_by (fault_flag trace at kind right whole h)

        pub record_whole : high_flag trace at kind ≡ false → record_at trace at kind ≡ got (event_at trace at kind) (next_place at kind)
        record_whole h = record_by (fault_none trace at kind right whole h)

  -- a record that was read takes 4 bytes and its payload, and ends within the trace
  abbrev pub Within : Read → Type 0
  Within (Ok None) = Unit {0}
  Within (Err refusal) = Unit {0}
  Within (Ok (Some (e, next))) = (next ≡ next_place at (kind_of_event e)) × (next ≤ length trace)

  within_event : (kind : Kind) → next_place at kind ≤ length trace → Within (got (event_at trace at kind) (next_place at kind))
  within_event Retirement h = (refl, h)
  within_event Break h = (refl, h)
  within_event ClearAll h = (refl, h)
  within_event ClearUser h = (refl, h)

  -- a record that is taken is all there
  abbrev pub Held : Kind → Verdict → Type 0
  Held kind (Ok done) = next_place at kind ≤ length trace
  Held kind (Err refusal) = Unit {0}

  pub held : (kind : Kind) → Held kind (fault_at trace at kind)
  unfolding fault_at
  held kind =
      by_test (Held kind) (not (eqb (length_at trace at) (payload_length kind))) _ _ (λ _. tt)
      (λ _. by_test (Held kind) (ltb (length trace) (next_place at kind)) _ _ (λ _. tt)
      (λ h. by_test (Held kind) (high_flag trace at kind) _ _ (λ _. tt) (λ _. ltb-false _ _ h)))

  within_taken : (kind : Kind) (verdict : Verdict) → Held kind verdict → Within (taken_by verdict (event_at trace at kind) (next_place at kind))
  within_taken kind (Ok done) h = within_event kind h
  within_taken kind (Err refusal) h = tt

  within_body : (kind : Result Kind UnknownKind) → Within (body_at trace at kind)
  unfolding record_at
  within_body (Err none) = tt
  within_body (Ok kind) = within_taken kind (fault_at trace at kind) (held kind)

  within : Within (read_at trace at)
  unfolding read_at
  within =
      by_test Within (eqb (remaining trace at) 0) _ _ (λ _. tt)
      (λ _. by_test Within (ltb (remaining trace at) 4) _ _ (λ _. tt) (λ _. within_body (kind_of (kind_at trace at))))

  pub got_ends : (e : Event) (next : ℕ) → read_at trace at ≡ got e next → (next ≡ next_place at (kind_of_event e)) × (next ≤ length trace)
  got_ends e next q = subst Within q within
