-- Document 02, R-4: what holds of the mended profile, and what does not hold of the crate's.
--
--   another_register r op  ==  the class word of the same opcode with register r in bits 9 to 11, in the crate's
--                              profile
--   MendedProfile          ==  the facts
use Rattle.std.specs.Prelude.{ℕ, ◌<◌, ◌≡◌, true, false, ◌||◌}
use Rattle.class_word.specs.Word.{info}
use Rattle.profile.specs.declared.Profile.TheVariants.{Crate, Mended}
use Rattle.profile.specs.Profile.{profile_of}
use Rattle.profile.specs.Mending.{from◌to◌, on_register, unpk, chk_on_4, lea_on_4, pack_for, in_lines}
use Rattle.state.specs.declared.Retirement.{Retirement}
use Rattle.state.specs.Events.{State}
use Rattle.state.specs.CrateCache.{crate_cache}
use Rattle.promises.specs.OverPairing.{OverPairs, NeverOverPairs}

abbrev pub another_register : ℕ → ℕ → ℕ
another_register r op = (profile_of Crate (on_register r op)).word.0

pub record MendedProfile : Type 0 where
  -- every opcode outside the lines has the crate's word and masks
  pub outside : (op : ℕ) → in_lines op ≡ false → profile_of Mended op ≡ profile_of Crate op
  -- "CMPM uses and defines both address registers and reads memory": B308
  pub worked : profile_of Mended 0xB308 ≡ record { word = info 0x4404; uses = 0x0300; defs = 0x0300 }
  -- "UNPK is classed as PACK is": 8140 to 814F, with any register
  pub as_pack : (op : ℕ) → unpk op ≡ true → (from 0x8140 to 0x814F) (on_register 0 (pack_for op)) ≡ true
  -- "CHK .. and LEA .. on register 4 are classed as on the other registers": on each of them
  pub as_others : (op r : ℕ) → (chk_on_4 op || lea_on_4 op) ≡ true → r < 8 → (r ≡ 4 → ⊥)
      → (profile_of Mended op).word.0 ≡ another_register r op
  -- "no accepted pair has a follower that reads or writes a data or address register its head writes"
  pub never_over_pairs : NeverOverPairs Mended
  -- its counterpart: EOR D0,D1, and MOVE D1,D2 behind it
  pub head : Retirement
  pub head_is : head.op ≡ 0xB141
  pub follower : Retirement
  pub follower_is : follower.op ≡ 0x3401
  pub follower_kept : follower.controls.flowed ≡ false
  pub crate_over_pairs : (s : State crate_cache) → s.window.opened ≡ false → OverPairs Crate s head follower
