-- In the mended profile no accepted pair over-pairs: what the head writes is in its def mask, what the follower touches is in its own two, and the register
-- rule keeps these apart. In the crate's one pair does.
-- Assumes nothing.
use Prim.Native.Nat.{ℕ, zero, suc, ◌+◌, ◌/◌, ◌%◌, ◌^◌}
use mathlib.Core.Path.{◌≡◌, refl, sym, ap, ◌∙◌}
use mathlib.Core.Bool.{true, false, ◌&&◌}
use native.Mathlib.Omega.{arith}
use lib.Dec.{eqb}
use lib.Bits.{bit_and, bit_or, and_step}
use lib.IntN.{pos}
use borrow.Author.Tests.{eqb-true, not-true, not-false}
use Rattle.bits.specs.Pattern.{matches}
use Rattle.bits.specs.Words.{bit, meets}
use Rattle.bits.proofs.Bools.{and_left, and_right}
use Rattle.bits.proofs.Packing.{bit_down}
use Rattle.classifier.specs.Entry.{ea}
use Rattle.classifier.specs.LowGroups.{move}
use Rattle.classifier.specs.HighGroups.{group11}
use Rattle.classifier.specs.Classify.{classify_of}
use Rattle.masks.specs.Registers.{mask_of_regs}
use Rattle.masks.specs.Operands.{operand_sets, register_operand}
use Rattle.masks.specs.Masks.{dyadic_sets, sets_of}
use Rattle.window.specs.declared.dispatch.Instruction.{Instruction}
use Rattle.window.specs.declared.Window.{Window}
use Rattle.window.specs.Dispatch.{passes, is_simple, holds, failing, first_failing}
use Rattle.window.specs.declared.dispatch.Rule.TheVariants.{Simple, RegistersFree}
use Rattle.window.proofs.Rules.{passes_each}
use Rattle.cost.specs.Retiring.{point_of}
use Rattle.cost.specs.Cost.{pairs, window_of}
use Rattle.cost.proofs.Led.{led_open, led_opened}
use Rattle.profile.specs.declared.Profile.TheVariants.{Crate, Mended}
use Rattle.profile.specs.Profile.{profile_of}
use Rattle.state.specs.declared.Retirement.{Retirement}
use Rattle.state.specs.declared.Event.TheVariants.{Retired}
use Rattle.state.specs.Events.{State, after}
use Rattle.state.specs.CrateCache.{crate_cache}
use Rattle.step.specs.Boards.{board_of}
use Rattle.manual.specs.Manual.{form_of}
use Rattle.promises.specs.OverPairing.{OverPairs, NeverOverPairs}
use Rattle.manual.proofs.Inclusions.{writes_defined, touches_named}

-- words that share no bit have none at one place
apart : (n a b : ℕ) → bit_and a b ≡ 0 → bit n a ≡ true → bit n b ≡ true → ⊥
apart zero a b e p q = omega (arith, and_step a b, eqb-true (a / 2 ^ 0 % 2) 1 p, eqb-true (b / 2 ^ 0 % 2) 1 q)
apart (suc n) a b e p q = apart n (a / 2) (b / 2) (omega (arith, and_step a b)) (sym (bit_down n a) ∙ p) (sym (bit_down n b) ∙ q)

module _ (s : State crate_cache) (h f : Retirement) (x : OverPairs Mended s h f) where
  abbrev w : Window
  w = (after (board_of Mended) s (Retired h)).window

  abbrev i : Instruction
  i = profile_of Mended f.op

  abbrev j : Instruction
  j = profile_of Mended h.op

  parts : (w.opened && passes i f.controls w) ≡ true
  unfolding pairs
  parts = x.taken

  -- the open window is the head's
  head_defs : w.defs ≡ j.defs
  unfolding window_of
  head_defs =
      let heads = sym (led_opened (point_of j h.controls) h.op j h.controls s.window) ∙ and_left w.opened (passes i f.controls w) parts in
      ap (λ (v : Window). v.defs) (led_open (point_of j h.controls) h.op j h.controls s.window heads)

  passed : passes i f.controls w ≡ true
  passed = and_right w.opened (passes i f.controls w) parts

  simple : is_simple i.word.0 ≡ true
  unfolding holds
  simple = passes_each i f.controls w passed Simple

  -- the register rule
  free : bit_and (bit_or i.uses i.defs) j.defs ≡ 0
  unfolding holds
  free =
      let m = bit_and (bit_or i.uses i.defs) w.defs in
      ap (bit_and (bit_or i.uses i.defs)) (sym head_defs)
      ∙ eqb-true m 0 (not-false (eqb m 0) (not-true (meets (bit_or i.uses i.defs) w.defs) (passes_each i f.controls w passed RegistersFree)))

  none_taken : ⊥
  none_taken =
      apart x.number _ _ free (touches_named f.op x.follower_valid simple x.number x.register x.touched)
      (writes_defined h.op x.head_valid x.number x.register x.written)

pub never_over_pairs_lem : NeverOverPairs Mended
never_over_pairs_lem s h f x = none_taken s h f x

-- ---- the crate's profile: EOR D0,D1, then MOVE D1,D2, which reads D1
abbrev pub cached_at : ℕ → ℕ → Retirement
cached_at op ppc =
    record {
      op = op;
      controls = record { flowed = false; cached = true; ess = true; ebc = true; supervisor = true; ppc = ppc; pc = ppc + 2; raw = record { 0 = pos 4 } };
    }

pub crate_over_pairs_lem : (s : State crate_cache) → s.window.opened ≡ false → OverPairs Crate s (cached_at 0xB141 0x1000) (cached_at 0x3401 0x1002)
unfolding form_of matches classify_of group11 move ea sets_of dyadic_sets operand_sets register_operand mask_of_regs window_of point_of pairs failing first_failing holds is_simple
crate_over_pairs_lem s shut =
    record {
      head_valid = refl;
      follower_valid = refl;
      taken = simp shut;
      number = 1;
      register = omega arith;
      written = refl;
      touched = refl;
    }
