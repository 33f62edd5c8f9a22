-- A retirement as the numbers that a host passes, its flags as one. Document 01, "One retirement" and "Records and
-- images". The Rust: cycles_060's arguments.
--
--   controls_of flags ppc pc raw       ==  the controls of these numbers
--                                          "Flag bits: 0 flowed, 1 cached, 2 ESS, 3 EBC, 4 supervisor"; higher bits are
--                                          not looked at
--   control_flags_of k                 ==  the flags of these controls, as a number
--   retirement_of op flags ppc pc raw  ==  the retirement of these numbers
use Rattle.std.specs.Prelude.{ℕ, [], ◌∷◌}
use Rattle.bits.specs.Words.{bit, packed_bits}
use Rattle.window.specs.declared.raw.RawCount.{RawCount}
use Rattle.window.specs.declared.dispatch.Controls.{Controls}
use Rattle.state.specs.declared.Retirement.{Retirement}

abbrev pub controls_of : ℕ → ℕ → ℕ → RawCount → Controls
controls_of flags ppc pc raw =
    record {
      flowed = bit 0 flags;
      cached = bit 1 flags;
      ess = bit 2 flags;
      ebc = bit 3 flags;
      supervisor = bit 4 flags;
      ppc = ppc;
      pc = pc;
      raw = raw;
    }

abbrev pub control_flags_of : Controls → ℕ
control_flags_of k = packed_bits (k.flowed ∷ k.cached ∷ k.ess ∷ k.ebc ∷ k.supervisor ∷ [])

abbrev pub retirement_of : ℕ → ℕ → ℕ → ℕ → RawCount → Retirement
retirement_of op flags ppc pc raw = record { op = op; controls = controls_of flags ppc pc raw }
