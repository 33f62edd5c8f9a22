-- The lines of a short trace have room.
-- Assumes nothing.
use Prim.Native.Nat.{ℕ, zero, suc, ◌+◌, ◌*◌, ◌≤◌}
use mathlib.Core.Path.{◌≡◌, refl}
use mathlib.Core.List.{List}
use native.Mathlib.Omega.{arith}
use lib.ListN.{length, length-append}
use Rattle.state.specs.declared.Event.{Event}
use Rattle.std.specs.Prelude.{Some, None, Ok, Err}
use Rattle.records.specs.Faults.{next_place}
use Rattle.records.specs.Record.{Read, remaining, kind_of_event, read_at}
use Rattle.records.specs.Trace.{Trace, events, refused, ahead, go_on, read_in, read_from, read_trace}
use Rattle.records.proofs.Reading.{got_ends}
use Rattle.listing.proofs.Reading.{Raw, got_raw}
use Rattle.showing.specs.Lines.{record_line, lines_from}
use Rattle.showing.specs.Inner.{lines_of}
use Rattle.showing.proofs.Lengths.{record_size, line_most}

lined_ahead : (at size rest : ℕ) (e : Event) (said : Trace) → at ≤ 65536 → Raw e → rest + record_size e ≤ size
    → 4 * length (lines_of (next_place at (kind_of_event e)) said) ≤ 17 * rest → 4 * length (lines_of at (ahead e said)) ≤ 17 * size
unfolding lines_from
lined_ahead at size rest e (events es) h w s l =
    omega (arith, line_most at e h w, length-append (record_line at e) (lines_from (next_place at (kind_of_event e)) es))
lined_ahead at size rest e (refused refusal) h w s l = omega arith

module _ (trace : List ℕ) (small : length trace ≤ 65536) where
  lined_on : (at : ℕ) (f : ℕ → Trace) → ((next : ℕ) → 4 * length (lines_of next (f next)) ≤ 17 * remaining trace next)
      → (r : Read) → read_at trace at ≡ r → 4 * length (lines_of at (go_on f r)) ≤ 17 * remaining trace at
  unfolding lines_from
  lined_on at f h (Ok None) q = omega arith
  lined_on at f h (Err refusal) q = omega arith
  lined_on at f h (Ok (Some (e, next))) q =
      let w = (got_ends trace at e next q).1 in
      let n = (got_ends trace at e next q).0 in
      lined_ahead at (remaining trace at) (remaining trace next) e (f next) (omega arith) (got_raw trace at q) (omega arith)
      (rw (← n) (h next))

  lined_in : (most at : ℕ) → 4 * length (lines_of at (read_in most trace at)) ≤ 17 * remaining trace at
  unfolding read_in lines_from
  lined_in zero at = omega arith
  lined_in (suc most) at = lined_on at (λ next. read_in most trace next) (λ next. lined_in most next) (read_at trace at) refl

  pub lines_most : 4 * length (lines_of 0 (read_trace trace)) ≤ 17 * length trace
  unfolding read_from
  lines_most = omega (arith, lined_in (remaining trace 0) 0)
