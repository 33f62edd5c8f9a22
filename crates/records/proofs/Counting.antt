-- Counting the retirements of a trace record by record comes to what the definition counts.
-- Assumes nothing.
use Prim.Native.Nat.{ℕ, ◌+◌, ◌≤◌}
use mathlib.Core.Path.{◌≡◌, refl, sym, ap, ◌∙◌}
use mathlib.Core.List.{List, [], ◌∷◌}
use native.Mathlib.Omega.{arith}
use Rattle.std.specs.Prelude.{Result, Ok, Err}
use Rattle.state.specs.declared.Event.{Event}
use Rattle.state.specs.declared.Event.TheVariants.{Retired, Broken, ClearedAll, ClearedUser}
use Rattle.refusals.specs.declared.Refusal.{Refusal}
use Rattle.records.specs.Record.{got, ended, read_at}
use Rattle.records.specs.Trace.{Trace, events, refused, ahead, read_from}
use Rattle.records.proofs.Walking.{from_end, from_bad, from_got}
use Rattle.state.specs.Events.{count_of}

pub count_cons : (e : Event) (es : List Event) → count_of (e ∷ es) ≡ count_of (e ∷ []) + count_of es
count_cons (Retired r) es = omega arith
count_cons Broken es = omega arith
count_cons ClearedAll es = omega arith
count_cons ClearedUser es = omega arith

pub count_one : (e : Event) → count_of (e ∷ []) ≤ 1
count_one (Retired r) = omega arith
count_one Broken = omega arith
count_one ClearedAll = omega arith
count_one ClearedUser = omega arith

-- what the check answers where k retirements have been counted already
abbrev pub counted_from : ℕ → Trace → Result ℕ Refusal
counted_from k (events es) = Ok (k + count_of es)
counted_from k (refused refusal) = Err refusal

counted_ahead : (k : ℕ) (e : Event) (t : Trace) → counted_from k (ahead e t) ≡ counted_from (k + count_of (e ∷ [])) t
counted_ahead k e (events es) = ap Ok (omega (arith, count_cons e es))
counted_ahead k e (refused refusal) = refl

module _ (trace : List ℕ) (at k : ℕ) {x : Result ℕ Refusal} (inv : counted_from k (read_from trace at) ≡ x) where
  pub count_end : read_at trace at ≡ ended → Ok k ≡ x
  count_end q = ap Ok (omega arith) ∙ sym (ap (counted_from k) (from_end trace at q)) ∙ inv

  pub count_bad : (refusal : Refusal) → read_at trace at ≡ Err refusal → Err refusal ≡ x
  count_bad refusal q = sym (ap (counted_from k) (from_bad trace at refusal q)) ∙ inv

  pub count_got : (e : Event) (next : ℕ) → read_at trace at ≡ got e next → counted_from (k + count_of (e ∷ [])) (read_from trace next) ≡ x
  count_got e next q = sym (ap (counted_from k) (from_got trace at e next q) ∙ counted_ahead k e (read_from trace next)) ∙ inv
