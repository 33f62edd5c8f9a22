-- Masks that stand for the registers of a mended row, put into an instruction.
-- Assumes nothing.
use mathlib.Core.Path.{◌≡◌, ap}
use Prim.Native.Nat.{ℕ}
use lib.Bits.{bit_or}
use Rattle.class_word.specs.Word.{info, READS_MEM}
use Rattle.masks.specs.Registers.{Regs, mask_of_regs}
use Rattle.window.specs.declared.dispatch.Instruction.{Instruction}
use Rattle.profile.specs.Mending.{also_defines, touches_only, reads_memory}

pub also : (r : Regs) (i : Instruction) {m : ℕ} → m ≡ mask_of_regs r
    → ◌≡◌ {A = Instruction} (record { word = i.word; uses = i.uses; defs = bit_or i.defs m }) (also_defines r i)
also r i h = ap (λ (m : ℕ). record { word = i.word; uses = i.uses; defs = bit_or i.defs m }) h

pub only : (r : Regs) (i : Instruction) {m : ℕ} → m ≡ mask_of_regs r
    → ◌≡◌ {A = Instruction} (record { word = i.word; uses = m; defs = m }) (touches_only r i)
only r i h = ap (λ (m : ℕ). record { word = i.word; uses = m; defs = m }) h

pub only_reading : (r : Regs) (i : Instruction) {m : ℕ} → m ≡ mask_of_regs r
    → ◌≡◌ {A = Instruction} (record { word = info (bit_or i.word.0 READS_MEM); uses = m; defs = m }) (reads_memory (touches_only r i))
only_reading r i h = ap (λ (m : ℕ). record { word = info (bit_or i.word.0 READS_MEM); uses = m; defs = m }) h
