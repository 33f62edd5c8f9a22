-- The masks of an opcode, for a host. Document 01, part 3. The Rust: reg_masks_060.
--
--   host_masks_of p op  ==  the masks of an opcode in the profile p, in the struct that goes to the host
use Rattle.std.specs.Prelude.{ℕ}
use Rattle.profile.specs.declared.Profile.{Profile}
use Rattle.profile.specs.Profile.{profile_of}
use Rattle.host.specs.declared.HostMasks.{HostMasks}

abbrev pub host_masks_of : Profile → ℕ → HostMasks
host_masks_of p op = record { uses = (profile_of p op).uses; defs = (profile_of p op).defs }
