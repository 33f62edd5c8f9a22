-- `mended_060`: the tests are those of the first three rows, in order; `reclassed` has the rest.
use mathlib.Core.Path.{◌≡◌, sym, ap, ◌∙◌}
use mathlib.Core.Bool.{Bool, not, ◌&&◌}
use Prim.Native.Nat.{ℕ}
use native.Mathlib.Omega.{arith}
use lib.Bits.{bit_and}
use lib.Dec.{eqb}
use Rattle.bits.specs.Fields.{reg_of}
use Rattle.bits.specs.Instructions.{size11}
use Rattle.bits.specs.Pattern.{Pattern, bits, ◌O, ◌I, ◌X, matches, mask_of, value_of}
use Rattle.bits.proofs.Patterns.{masked}
use Rattle.masks.specs.Registers.{D}
use Rattle.masks.proofs.RegistersLaws.{mask_only}
use Rattle.profile.specs.Mending.{both_addresses, mended_rows}
use Rattle.profile.proofs.Masking.{also, only, only_reading}
use Rattle.profile.proofs.mending.mended_060.Goals as goal

-- the kinds of `is_of_kind`
abbrev eor : Pattern
eor = bits I O I I X X X I X X O O O X X X

abbrev cmpm : Pattern
cmpm = bits I O I I X X X I X X O O I X X X

kind : (p : Pattern) (op : ℕ) {b t : Bool} → b ≡ (eqb (bit_and op (mask_of p)) (value_of p) && not (matches size11 op)) → b ≡ t
    → (matches p op && not (matches size11 op)) ≡ t
kind p op h k = sym (h ∙ ap (λ (u : Bool). u && not (matches size11 op)) (masked p op)) ∙ k

pub returns-then-is_of_kind : goal.returns-then-is_of_kind
unfolding mended_rows
returns-then-is_of_kind c =
    rw (kind eor c.args.op c.is_of_kind.ensures c.if-is_of_kind.true)
    (also (D (reg_of c.args.op)) c.args.i (mask_only (reg_of c.args.op) c.reg_of.ensures (omega arith)))

pub returns-then-within : goal.returns-then-within
unfolding mended_rows
returns-then-within c =
    rw (kind eor c.args.op c.is_of_kind.ensures c.if-is_of_kind.false, sym c.within.ensures ∙ c.if-within.true)
    (only (D (reg_of c.args.op)) c.args.i (mask_only (reg_of c.args.op) c.reg_of-own.ensures (omega arith)))

pub returns-then-is_of_kind-2 : goal.returns-then-is_of_kind-2
unfolding mended_rows
returns-then-is_of_kind-2 c =
    rw (
      kind eor c.args.op c.is_of_kind.ensures c.if-is_of_kind.false,
      sym c.within.ensures ∙ c.if-within.false,
      kind cmpm c.args.op c.is_of_kind-2.ensures c.if-is_of_kind-2.true,
    )
    (only_reading (both_addresses c.args.op) c.args.i c.both_addresses-both.ensures)

pub returns : goal.returns
unfolding mended_rows
returns c =
    rw (
      kind eor c.args.op c.is_of_kind.ensures c.if-is_of_kind.false,
      sym c.within.ensures ∙ c.if-within.false,
      kind cmpm c.args.op c.is_of_kind-2.ensures c.if-is_of_kind-2.false,
    )
    c.reclassed.ensures
