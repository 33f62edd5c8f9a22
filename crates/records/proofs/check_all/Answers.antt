-- `check_all`: each record that is read, or is told at a look, is counted with what is left of the trace.
use Prim.Native.Nat.{ℕ}
use mathlib.Core.Path.{◌≡◌, sym, ap, ◌∙◌}
use mathlib.Core.List.{List}
use native.Mathlib.Omega.{arith}
use Rattle.std.specs.Prelude.{Option, Some, Ok}
use Rattle.std.proofs.lemmas.Grind.{common_steps}
use Rattle.state.specs.declared.Event.{Event}
use Rattle.records.specs.Record.{Read, got, read_at}
use Rattle.records.proofs.Walking.{got_within}
use Rattle.records.proofs.Whole.{sound_got}
use Rattle.records.proofs.Counting.{count_one, count_end, count_bad, count_got}
use Rattle.records.proofs.check_all.Goals as goal

pub loop-count-preserved-then-sound_at : goal.loop-count-preserved-then-sound_at
loop-count-preserved-then-sound_at c =
    let q = sound_got _ _ (sym c.sound_at.ensures ∙ c.if-sound_at.true) in
    let w = got_within _ _ _ _ q in
    (w.1, omega arith, count_got _ _ _ c.loop-count.invariant.2 _ _ q)

pub returns-in_err-e : goal.returns-in_err-e
returns-in_err-e c =
    let b = count_bad _ _ _ c.loop-count.invariant.2 _ (sym c.read_record.ensures ∙ c.in_err-e.was) in
    grind (arith, common_steps, b)

pub returns-in_default : goal.returns-in_default
returns-in_default c =
    count_end _ _ _ c.loop-count.invariant.2 (sym c.read_record.ensures ∙ c.in_ok-e.was ∙ ap Ok c.in_default.is)

-- the event that was read, and the place after its record
taken : (s : List ℕ) (at : ℕ) {r : Read} {o : Option (Event × ℕ)} {e : Event} {next : ℕ}
    → r ≡ read_at s at → r ≡ Ok o → o ≡ Some (e, next) → read_at s at ≡ got e next
taken s at a b q = sym a ∙ b ∙ ap Ok q

pub loop-count-smaller : goal.loop-count-smaller
loop-count-smaller c =
    let w = got_within _ _ _ _ (taken _ _ c.read_record.ensures c.in_ok-e.was c.in-Some.is) in
    omega arith

pub loop-count-preserved : goal.loop-count-preserved
loop-count-preserved c =
    let q = taken _ _ c.read_record.ensures c.in_ok-e.was c.in-Some.is in
    let w = got_within _ _ _ _ q in (
      w.1,
      omega (arith, count_one c.in-Some.e, c.counted-count.ensures),
      rw c.counted-count.ensures (count_got _ _ _ c.loop-count.invariant.2 _ _ q),
    )
