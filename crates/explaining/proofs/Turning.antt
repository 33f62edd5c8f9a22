-- What one event on the lent numbers does to the writing as it goes on.
-- Assumes nothing.
use Prim.Native.Nat.{ℕ, ◌+◌, ◌^◌, ◌≤◌, ◌<◌}
use mathlib.Core.Path.{◌≡◌, sym, ap, subst, ◌∙◌}
use mathlib.Core.Bool.{Bool}
use mathlib.Core.List.{List}
use native.Mathlib.Omega.{arith}
use lib.ListN.{length, get_or}
use Rattle.text.specs.Written.{written, written_of}
use Rattle.profile.specs.declared.Profile.{Profile}
use Rattle.state.specs.declared.Retirement.{Retirement}
use Rattle.state.specs.declared.Event.{Event}
use Rattle.state.specs.declared.Event.TheVariants.{Retired}
use Rattle.state.specs.declared.Oep060Timing.{Oep060Timing}
use Rattle.state.specs.Timing.{timing_at}
use Rattle.step.specs.Boards.{after_of}
use Rattle.in_place.specs.Lent.{Lent, state_at, lent_of}
use Rattle.in_place.specs.Retire.{event_at_of}
use Rattle.in_place.proofs.NumbersHeld.{window_held}
use Rattle.records.specs.Record.{got, read_at}
use Rattle.listing.proofs.TableLines.{none_counted}
use Rattle.reasons.specs.declared.explain.Explained.{Explained}
use Rattle.reasons.specs.Reasons.{reason_number}
use Rattle.reasons.specs.Explain.{ExplainedAt, explained_at, explained_of, met_of, explain_at_of}
use Rattle.explaining.specs.WhyLines.{why_line}
use Rattle.explaining.proofs.Counting.{one_more}
use Rattle.explaining.proofs.Going.{Going, going_quiet, going_index, going_room, going_line}

held : (t : Oep060Timing) → state_at (lent_of t) ≡ t
held t = ap (timing_at t.cache.tags t.cache.state) (window_held t.window)

module _ {full : Bool} {p : Profile} {trace out₀ : List ℕ} {start : ℕ} {t₀ : Oep060Timing} {out : List ℕ} {place at k sum : ℕ} {counts : List ℕ} (l : Lent)
    (g : Going full p trace out₀ start t₀ out place at k sum counts (state_at l)) where
  pub turn_quiet : (e : Event) (next : ℕ) → read_at trace at ≡ got e next → ((r : Retirement) → e ≡ Retired r → ⊥) → {m : Lent} → m ≡ event_at_of p l e
      → Going full p trace out₀ start t₀ out place next k sum counts (state_at m)
  turn_quiet e next q f h = going_quiet g e next q (none_counted e f) (ap state_at h ∙ held (after_of p (state_at l) e))

  module _ {r : Retirement} {next : ℕ} (q : read_at trace at ≡ got (Retired r) next) {x : Explained} {m : Lent} (h : explained_at x m ≡ explain_at_of p l r) where
    this : x ≡ explained_of (met_of p l r)
    this = ap (λ (y : ExplainedAt). y.explained) h

    left : state_at m ≡ after_of p (state_at l) (Retired r)
    left = ap state_at (ap (λ (y : ExplainedAt). y.lent) h) ∙ held (after_of p (state_at l) (Retired r))

    pub turn_room : place + length (why_line full k r.op x) ≤ length out
    turn_room = subst (λ (y : Explained). place + length (why_line full k r.op y) ≤ length out) (sym this) (going_room g q)

    pub turn_count : get_or counts (reason_number x.reason) 0 < 4294967295
    turn_count = omega (arith, g.low (reason_number x.reason), going_index g)

    pub turn_sum : x.cost.0 < 2 ^ 32 → sum + x.cost.0 < 2 ^ 64
    turn_sum small = omega (arith, g.small, going_index g)

    pub turn_line : {place' : ℕ} {out' : List ℕ} → written place' out' ≡ written_of out place (why_line full k r.op x)
        → {counts' : List ℕ} → counts' ≡ one_more counts (reason_number x.reason) → x.cost.0 < 2 ^ 32
        → Going full p trace out₀ start t₀ out' place' next (k + 1) (sum + x.cost.0) counts' (state_at m)
    turn_line {place'} {out'} d {counts'} c small =
        subst (λ (ns : List ℕ). Going full p trace out₀ start t₀ out' place' next (k + 1) (sum + x.cost.0) ns (state_at m))
        (sym (c ∙ ap (λ (y : Explained). one_more counts (reason_number y.reason)) this))
        (going_line g q (d ∙ ap (λ (y : Explained). written_of out place (why_line full k r.op y)) this) left (ap (λ (y : Explained). y.cost.0) this) small)
