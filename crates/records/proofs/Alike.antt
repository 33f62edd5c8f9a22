-- A record that stands in another trace with the same bytes is the same record: in front of more bytes, and behind them.
-- Assumes nothing.
use Prim.Native.Nat.{ℕ, zero, suc, ◌+◌, ◌*◌, ◌≤◌}
use mathlib.Core.Path.{◌≡◌, refl, sym, ap, ap₂, subst, ◌∙◌}
use mathlib.Core.List.{List, ◌++◌}
use native.Mathlib.Nat.{zero-add, add-zero}
use native.Mathlib.Omega.{arith}
use lib.Dec.{ltb}
use lib.ListN.{length, length-append, get_or-append}
use Rattle.little_endian.specs.Numbers.{number_at}
use Rattle.little_endian.proofs.Numbers.{number_behind}
use Rattle.state.specs.declared.Event.{Event}
use Rattle.state.specs.declared.Event.TheVariants.{Retired}
use Rattle.records.specs.declared.kinds.Kind.{Kind}
use Rattle.records.specs.declared.kinds.Kind.TheVariants.{Retirement, Break, ClearAll, ClearUser}
use Rattle.records.specs.Kinds.{payload_length}
use Rattle.records.specs.Faults.{next_place, high_flag}
use Rattle.records.specs.Layout.{retirement_at}
use Rattle.records.specs.Record.{remaining, event_at}
use Rattle.records.specs.RecordTable.{Whole, whole}

number_front : (width : ℕ) (a b : List ℕ) (at : ℕ) → at + width ≤ length a → number_at width (a ++ b) at ≡ number_at width a at
unfolding number_at
number_front zero a b at h = refl
number_front (suc width) a b at h =
    ap₂ (λ (x y : ℕ). x + 256 * y) (get_or-append a b 0 at (omega arith)) (number_front width a b (at + 1) (omega arith))

-- a record that stands d places further on in other, with the same bytes, is the same record
module _ (trace other : List ℕ) (d at : ℕ) {up : ℕ} (moved : up ≡ d + at) (longer : remaining trace at ≤ remaining other up)
    (same : (width n : ℕ) → at + n + width ≤ length trace → number_at width other (up + n) ≡ number_at width trace (at + n)) where
  retirement_alike : 20 ≤ remaining trace at → retirement_at other up ≡ retirement_at trace at
  unfolding retirement_at
  retirement_alike h = rw (same 2 4 (omega arith), same 2 6 (omega arith), same 4 8 (omega arith), same 4 12 (omega arith), same 4 16 (omega arith))

  event_alike : (kind : Kind) → 4 + payload_length kind ≤ remaining trace at → event_at other up kind ≡ event_at trace at kind
  event_alike Retirement h = ap Retired (retirement_alike h)
  event_alike Break h = refl
  event_alike ClearAll h = refl
  event_alike ClearUser h = refl

  flag_alike : (kind : Kind) → 4 + payload_length kind ≤ remaining trace at → high_flag other up kind ≡ high_flag trace at kind
  flag_alike Retirement h = ap (ltb 31) (same 2 6 (omega arith))
  flag_alike Break h = refl
  flag_alike ClearAll h = refl
  flag_alike ClearUser h = refl

  whole_alike : {e : Event} {next : ℕ} → Whole trace at e next → Whole other up e (d + next)
  whole_alike (whole kind h e w f) =
      let four = h.0 in
      let long : number_at 2 other up ≡ number_at 2 trace at = simp add-zero at (same 2 0 (omega arith)) in
      let n : next_place up kind ≡ d + next_place at kind = omega arith in
      subst (λ (x : Event). Whole other up x (d + next_place at kind)) (event_alike kind w)
      (subst (Whole other up (event_at other up kind)) n
      (whole kind (omega arith, same 2 2 (omega arith) ∙ h.1) (long ∙ e) (omega arith) (flag_alike kind w ∙ f)))

module _ (a b : List ℕ) where
  pub whole_front : {at next : ℕ} {e : Event} → Whole a at e next → Whole (a ++ b) at e next
  whole_front {at} {next} {e} w =
      rw zero-add at
      (whole_alike a (a ++ b) 0 at (sym (zero-add at)) (omega (arith, length-append a b))
      (λ width n h. number_front width a b (at + n) (omega arith)) w)

  pub whole_behind : {at next : ℕ} {e : Event} → Whole b at e next → Whole (a ++ b) (length a + at) e (length a + next)
  whole_behind {at} w =
      whole_alike b (a ++ b) (length a) at refl (omega (arith, length-append a b))
      (λ width n h.
      let m : length a + at + n ≡ length a + (at + n) = omega arith in
      ap (number_at width (a ++ b)) m ∙ number_behind width a b (at + n)) w
