-- What holds of the events of a trace: a retirement takes 20 bytes, and its raw count is one of 32 bits.
-- Assumes nothing.
use Prim.Native.Nat.{ℕ, zero, suc, ◌+◌, ◌*◌, ◌^◌, ◌≤◌}
use mathlib.Core.Path.{◌≡◌, refl, subst}
use mathlib.Core.List.{List, [], ◌∷◌}
use native.Mathlib.Omega.{arith}
use lib.Dec.{eqb, ltb}
use lib.IntN.{pos}
use mir.Syntax.{w32}
use mir.Val.{SFits}
use borrow.Author.Tests.{ltb-true, ltb-false}
use Rattle.little_endian.specs.Signed.{signed_of}
use Rattle.state.specs.declared.Event.{Event}
use Rattle.state.specs.declared.Event.TheVariants.{Retired, Broken, ClearedAll, ClearedUser}
use Rattle.records.specs.declared.kinds.Kind.{Kind}
use Rattle.records.specs.declared.kinds.Kind.TheVariants.{Retirement, Break, ClearAll, ClearUser}
use Rattle.records.specs.declared.kinds.UnknownKind.{UnknownKind}
use Rattle.std.specs.Prelude.{Some, None, Result, Ok, Err}
use Rattle.records.specs.Kinds.{kind_of}
use Rattle.refusals.specs.Verdict.{Verdict}
use Rattle.records.specs.Faults.{next_place, fault_at}
use Rattle.records.specs.Layout.{retirement_at, kind_at}
use Rattle.records.specs.Record.{Read, got, remaining, event_at, taken_by, record_at, body_at, read_at}
use Rattle.records.specs.Trace.{Trace, events, refused, ahead, go_on, read_in, read_from, read_trace}
use Rattle.records.proofs.Choices.{by_test}
use Rattle.records.proofs.Walking.{got_within}
use Rattle.records.proofs.Counting.{count_cons, count_one}
use Rattle.state.specs.Events.{count_of}

signed_fits : (x : ℕ) → SFits w32 (signed_of x)
unfolding signed_of
signed_fits x =
    by_test (SFits w32) (ltb x (2 ^ 31)) (pos x) _
    (λ h. let l = ltb-true x (2 ^ 31) h in record { sfits = omega arith })
    (λ h. let l = ltb-false x (2 ^ 31) h in record { sfits = omega arith })

-- a retirement's raw count is a number of 32 bits
abbrev pub Raw : Event → Type 0
Raw (Retired r) = SFits w32 r.controls.raw.0
Raw Broken = Unit {0}
Raw ClearedAll = Unit {0}
Raw ClearedUser = Unit {0}

abbrev pub Raws : List Event → Type 0
Raws [] = Unit {0}
Raws (e ∷ es) = Raw e × Raws es

abbrev RawRead : Read → Type 0
RawRead (Ok None) = Unit {0}
RawRead (Err refusal) = Unit {0}
RawRead (Ok (Some (e, next))) = Raw e

raw_event : (trace : List ℕ) (at : ℕ) (k : Kind) → Raw (event_at trace at k)
unfolding retirement_at
raw_event trace at Retirement = signed_fits _
raw_event trace at Break = tt
raw_event trace at ClearAll = tt
raw_event trace at ClearUser = tt

raw_taken : (trace : List ℕ) (at : ℕ) (k : Kind) (verdict : Verdict) → RawRead (taken_by verdict (event_at trace at k) (next_place at k))
raw_taken trace at k (Ok done) = raw_event trace at k
raw_taken trace at k (Err refusal) = tt

raw_body : (trace : List ℕ) (at : ℕ) (k : Result Kind UnknownKind) → RawRead (body_at trace at k)
unfolding record_at
raw_body trace at (Err none) = tt
raw_body trace at (Ok k) = raw_taken trace at k (fault_at trace at k)

raw_read : (trace : List ℕ) (at : ℕ) → RawRead (read_at trace at)
unfolding read_at
raw_read trace at =
    by_test RawRead (eqb (remaining trace at) 0) _ _ (λ _. tt)
    (λ _. by_test RawRead (ltb (remaining trace at) 4) _ _ (λ _. tt) (λ _. raw_body trace at (kind_of (kind_at trace at))))

pub got_raw : (trace : List ℕ) (at : ℕ) {e : Event} {next : ℕ} → read_at trace at ≡ got e next → Raw e
got_raw trace at q = subst RawRead q (raw_read trace at)

-- what holds of the events of a trace that stands in so many bytes
abbrev pub Short : ℕ → Trace → Type 0
Short size (events es) = (20 * count_of es ≤ size) × Raws es
Short size (refused refusal) = Unit {0}

short_ahead : (size rest : ℕ) (e : Event) (said : Trace) → rest + 20 * count_of (e ∷ []) ≤ size → Raw e → Short rest said → Short size (ahead e said)
short_ahead size rest e (events es) h w q = (omega (arith, count_cons e es, q.0), (w, q.1))
short_ahead size rest e (refused refusal) h w q = tt

short_on : (trace : List ℕ) (at : ℕ) (f : ℕ → Trace) → ((next : ℕ) → Short (remaining trace next) (f next)) → (r : Read) → read_at trace at ≡ r
    → Short (remaining trace at) (go_on f r)
short_on trace at f h (Ok None) q = (omega arith, tt)
short_on trace at f h (Err refusal) q = tt
short_on trace at f h (Ok (Some (e, next))) q =
    let w = got_within trace at e next q in
    short_ahead (remaining trace at) (remaining trace next) e (f next) (omega (arith, count_one e)) (got_raw trace at q) (h next)

short_in : (most : ℕ) (trace : List ℕ) (at : ℕ) → Short (remaining trace at) (read_in most trace at)
unfolding read_in
short_in zero trace at = (omega arith, tt)
short_in (suc most) trace at = short_on trace at (λ next. read_in most trace next) (λ next. short_in most trace next) (read_at trace at) refl

pub short : (trace : List ℕ) → Short (remaining trace 0) (read_trace trace)
unfolding read_from
short trace = short_in (remaining trace 0) trace 0
