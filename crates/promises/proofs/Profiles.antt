-- The facts of the mended profile: the rows by their tests; CHK and LEA on each other register, computed at each of their opcodes; and no over-pairing.
-- Assumes nothing.
use Prim.Native.Nat.{ℕ, ◌+◌, ◌<◌}
use mathlib.Core.Path.{◌≡◌, refl}
use mathlib.Core.Bool.{Bool, true, false, not, ◌||◌}
use native.Mathlib.Omega.{arith}
use lib.Dec.{eqb}
use borrow.Author.Tests.{eqb-true, ne_eqb, le-leb}
use Rattle.std.proofs.lemmas.Bool.{or_parts}
use Rattle.bits.specs.Below.{every_below}
use Rattle.bits.specs.Pattern.{matches}
use Rattle.bits.proofs.Below.{each_below, each_between}
use Rattle.bits.proofs.Bools.{implied}
use Rattle.classifier.specs.Entry.{ea}
use Rattle.classifier.specs.Group4.{group4}
use Rattle.classifier.specs.HighGroups.{group11}
use Rattle.classifier.specs.Classify.{classify_of}
use Rattle.masks.specs.Registers.{mask_of_regs}
use Rattle.masks.specs.Operands.{operand_sets}
use Rattle.masks.specs.Masks.{dyadic_sets, sets_of}
use Rattle.class_word.specs.Word.{info}
use Rattle.profile.specs.declared.Profile.TheVariants.{Crate, Mended}
use Rattle.profile.specs.Mending.{
  from◌to◌,
  on_register,
  eor_of_registers,
  extb_long,
  cmpm,
  moves,
  unpk,
  chk_on_4,
  lea_on_4,
  pack_for,
  in_lines,
  mended_rows,
}
use Rattle.profile.specs.Profile.{profile_of}
use Rattle.profile.proofs.Reclassing.{ranged, on_four}
use Rattle.promises.specs.Profiles.{another_register, MendedProfile}
use Rattle.promises.proofs.OverPairing.{cached_at, never_over_pairs_lem, crate_over_pairs_lem}

outside : (op : ℕ) → in_lines op ≡ false → profile_of Mended op ≡ profile_of Crate op
unfolding mended_rows
outside op h =
    let a = or_parts _ (lea_on_4 op) h in
    let b = or_parts _ (chk_on_4 op) a.0 in
    let c = or_parts _ (unpk op) b.0 in
    let d = or_parts _ (moves op) c.0 in
    let e = or_parts _ (cmpm op) d.0 in
    let f = or_parts (eor_of_registers op) (extb_long op) e.0 in
    simp (f.0, f.1, e.1, d.1, c.1, b.1, a.1)

worked : profile_of Mended 0xB308 ≡ record { word = info 0x4404; uses = 0x0300; defs = 0x0300 }
unfolding mended_rows matches classify_of group11 ea sets_of dyadic_sets operand_sets mask_of_regs
worked = refl

as_pack_lem : (op : ℕ) → unpk op ≡ true → (from 0x8140 to 0x814F) (on_register 0 (pack_for op)) ≡ true
as_pack_lem op h =
    let q = ranged 0x8180 0x818F (on_register 0 op) h in
    simp (le-leb 0x8140 (on_register 0 (pack_for op)) (omega (arith, q.0, q.1)), le-leb (on_register 0 (pack_for op)) 0x814F (omega (arith, q.0, q.1)))

-- on this register the word is the mended profile's
abbrev as_other : ℕ → ℕ → Bool
as_other op r = not (chk_on_4 op || lea_on_4 op) || (eqb r 4 || eqb (profile_of Mended op).word.0 (another_register r op))

others_all : every_below 256 (λ k. every_below 8 (as_other (0x4900 + k))) ≡ true
unfolding mended_rows matches classify_of group4 ea
others_all = refl

as_others_lem : (op r : ℕ) → (chk_on_4 op || lea_on_4 op) ≡ true → r < 8 → (r ≡ 4 → ⊥) → (profile_of Mended op).word.0 ≡ another_register r op
as_others_lem op r h l n =
    let q = on_four op h in
    let all = each_between 0x4900 256 (λ x. every_below 8 (as_other x)) others_all op q.0 (omega (arith, q.1)) in
    let either = implied (each_below 8 (as_other op) all r l) h in
    eqb-true _ _ (rw (ne_eqb r 4 n) at either)

pub mended_profile : MendedProfile
mended_profile =
    record {
      outside = outside;
      worked = worked;
      as_pack = as_pack_lem;
      as_others = as_others_lem;
      never_over_pairs = never_over_pairs_lem;
      head = cached_at 0xB141 0x1000;
      head_is = refl;
      follower = cached_at 0x3401 0x1002;
      follower_is = refl;
      follower_kept = refl;
      crate_over_pairs = crate_over_pairs_lem;
    }
