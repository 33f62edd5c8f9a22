-- How long the lines are: at most 17 characters for each 4 bytes of a record.
-- Assumes nothing.
use Prim.Native.Nat.{ℕ, ◌+◌, ◌*◌, ◌≤◌}
use mathlib.Core.Path.{◌≡◌}
use native.Mathlib.Omega.{arith}
use lib.ListN.{length, length-append}
use Rattle.text.specs.Decimal.{decimal_of}
use Rattle.text.specs.Signed.{signed_decimal_of}
use Rattle.text.proofs.Digits.{decimal_length}
use Rattle.text.proofs.Signs.{signed_length}
use Rattle.window.specs.declared.dispatch.Controls.{Controls}
use Rattle.state.specs.declared.Retirement.{Retirement}
use Rattle.state.specs.declared.Event.{Event}
use Rattle.state.specs.declared.Event.TheVariants.{Retired, Broken, ClearedAll, ClearedUser}
use Rattle.listing.proofs.Reading.{Raw}
use Rattle.records.specs.Kinds.{payload_length}
use Rattle.records.specs.Record.{kind_of_event}
use Rattle.showing.specs.Lines.{flags_text, controls_text, retirement_text, record_text, record_line, end_line}

pub controls_length : (k : Controls) → length (controls_text k) ≡ 24 + length (signed_decimal_of k.raw.0)
unfolding flags_text controls_text
controls_length k = simp length-append (omega arith)

pub retirement_length : (r : Retirement) → length (retirement_text r) ≡ 16 + length (controls_text r.controls)
retirement_length r = simp length-append (omega arith)

pub line_length : (at : ℕ) (e : Event) → length (record_line at e) ≡ length (decimal_of at) + length (record_text e) + 2
line_length at e = simp length-append (omega arith)

pub end_length : (size : ℕ) → length (end_line size) ≡ length (decimal_of size) + 5
end_length size = simp length-append (omega arith)

-- a place or a size has at most 5 digits
pub end_most : (size : ℕ) → size ≤ 65536 → length (end_line size) ≤ 10
end_most size h = omega (arith, end_length size, decimal_length 5 size (omega arith) (omega arith))

-- how many bytes the record of an event has
abbrev pub record_size : Event → ℕ
record_size e = 4 + payload_length (kind_of_event e)

pub line_most : (at : ℕ) (e : Event) → at ≤ 65536 → Raw e → 4 * length (record_line at e) ≤ 17 * record_size e
line_most at e h w = go e w
  where
    five : length (decimal_of at) ≤ 5
    five = decimal_length 5 at (omega arith) (omega arith)

    go : (x : Event) → Raw x → 4 * length (record_line at x) ≤ 17 * record_size x
    go (Retired r) fits =
        omega (arith, five, line_length at (Retired r), retirement_length r, controls_length r.controls, signed_length r.controls.raw.0 fits)
    go Broken fits = omega (arith, five, line_length at Broken)
    go ClearedAll fits = omega (arith, five, line_length at ClearedAll)
    go ClearedUser fits = omega (arith, five, line_length at ClearedUser)
