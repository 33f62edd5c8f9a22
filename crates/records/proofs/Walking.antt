-- What a trace says from a place on is what stands there, and then what it says from the next place on: the bound on the records vanishes.
-- Assumes nothing.
use Prim.Native.Nat.{ℕ, zero, suc, ◌+◌, ◌*◌, ◌≤◌}
use mathlib.Core.Path.{◌≡◌, refl, sym, ap, ◌∙◌}
use mathlib.Core.List.{List, [], ◌∷◌}
use native.Mathlib.Omega.{arith}
use lib.ListN.{length}
use Rattle.std.specs.Prelude.{Some, None, Ok, Err}
use Rattle.state.specs.declared.Event.{Event}
use Rattle.state.specs.declared.Event.TheVariants.{Retired, Broken, ClearedAll, ClearedUser}
use Rattle.refusals.specs.declared.Refusal.{Refusal}
use Rattle.records.specs.Record.{Read, got, ended, remaining, read_at}
use Rattle.records.specs.Trace.{Trace, events, refused, ahead, go_on, read_in, read_from}
use Rattle.records.proofs.Reading.{read_end, got_ends}
use Rattle.state.specs.Events.{count_of}

-- a record that was read takes 4 bytes, and 16 more if it is a retirement, and ends within the trace
pub got_within : (trace : List ℕ) (at : ℕ) (e : Event) (next : ℕ) → read_at trace at ≡ got e next
    → (at + 4 + 16 * count_of (e ∷ []) ≤ next) × (next ≤ length trace)
got_within trace at (Retired r) next q = let w = got_ends trace at (Retired r) next q in (omega (arith, w.0), w.1)
got_within trace at Broken next q = let w = got_ends trace at Broken next q in (omega (arith, w.0), w.1)
got_within trace at ClearedAll next q = let w = got_ends trace at ClearedAll next q in (omega (arith, w.0), w.1)
got_within trace at ClearedUser next q = let w = got_ends trace at ClearedUser next q in (omega (arith, w.0), w.1)

-- what goes on alike from every later place is alike
alike : (trace : List ℕ) (at : ℕ) (f g : ℕ → Trace) → ((next : ℕ) → at + 4 ≤ next → f next ≡ g next) → (r : Read) → read_at trace at ≡ r
    → go_on f r ≡ go_on g r
alike trace at f g h (Ok None) q = refl
alike trace at f g h (Err refusal) q = refl
alike trace at f g h (Ok (Some (e, next))) q = let w = got_within trace at e next q in ap (ahead e) (h next (omega arith))

-- any number of records that is large enough gives the same
enough : (f g : ℕ) (trace : List ℕ) (at : ℕ) → length trace ≤ at + f → length trace ≤ at + g → read_in f trace at ≡ read_in g trace at
unfolding read_in
enough zero zero trace at hf hg = refl
enough zero (suc g) trace at hf hg = sym (ap (go_on (λ next. read_in g trace next)) (read_end trace at (omega arith)))
enough (suc f) zero trace at hf hg = ap (go_on (λ next. read_in f trace next)) (read_end trace at (omega arith))
enough (suc f) (suc g) trace at hf hg =
    alike trace at (λ next. read_in f trace next) (λ next. read_in g trace next)
    (λ next h. enough f g trace next (omega arith) (omega arith)) (read_at trace at) refl

pub from_place : (trace : List ℕ) (at : ℕ) → read_from trace at ≡ go_on (read_from trace) (read_at trace at)
unfolding read_from read_in
from_place trace at = go (remaining trace at) refl
  where
    go : (f : ℕ) → remaining trace at ≡ f → read_in f trace at ≡ go_on (λ next. read_in (remaining trace next) trace next) (read_at trace at)
    go zero q = sym (ap (go_on (λ next. read_in (remaining trace next) trace next)) (read_end trace at (omega arith)))
    go (suc f) q =
        alike trace at (λ next. read_in f trace next) (λ next. read_in (remaining trace next) trace next)
        (λ next h. enough f (remaining trace next) trace next (omega arith) (omega arith)) (read_at trace at) refl

module _ (trace : List ℕ) (at : ℕ) where
  pub from_end : read_at trace at ≡ ended → read_from trace at ≡ events []
  from_end q = from_place trace at ∙ ap (go_on (read_from trace)) q

  pub from_bad : (refusal : Refusal) → read_at trace at ≡ Err refusal → read_from trace at ≡ refused refusal
  from_bad refusal q = from_place trace at ∙ ap (go_on (read_from trace)) q

  pub from_got : (e : Event) (next : ℕ) → read_at trace at ≡ got e next → read_from trace at ≡ ahead e (read_from trace next)
  from_got e next q = from_place trace at ∙ ap (go_on (read_from trace)) q
