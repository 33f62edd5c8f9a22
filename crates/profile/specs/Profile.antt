-- What each opcode is to the pairing window, in the profile that is chosen at start. Document 000's is the crate's: the
-- Rust's cycles_060 looks it up by info_060 and reg_masks_060. Document 02, R-4, adds the mended one: "Add a second
-- profile beside the crate's, chosen at start."
--
--   Profile           ==  the crate's, or the mended: the enum of the code
--   joined_of word m  ==  an instruction of this class word and these masks
--   crate_profile op  ==  an opcode in the crate's profile: its class word and its masks
--   read_in p op i    ==  an opcode in the profile p, where i is what the crate's has of it
--   profile_of p op   ==  an opcode in the profile p
--   profile_at n      ==  the profile of a number that a host passes: 1 is the mended one, every other the crate's
--   number_of p       ==  the number of a profile: the crate's 0, the mended 1
use Rattle.std.specs.Prelude.{ℕ, cond, eqb}
use Rattle.bits.specs.Rows.{first}
use Rattle.class_word.specs.declared.Info060.{Info060}
use Rattle.class_word.specs.Word.{info}
use Rattle.classifier.specs.Classify.{classify_of}
use Rattle.masks.specs.declared.registers.RegMasks060.{RegMasks060}
use Rattle.masks.specs.Masks.{masks_of}
use Rattle.window.specs.declared.dispatch.Instruction.{Instruction}
use Rattle.profile.specs.declared.Profile.{Profile}
use Rattle.profile.specs.declared.Profile.TheVariants.{Crate, Mended}
use Rattle.profile.specs.Mending.{mended_rows}

abbrev pub joined_of : Info060 → RegMasks060 → Instruction
joined_of word m = record { word = word; uses = m.uses; defs = m.defs }

abbrev pub crate_profile : ℕ → Instruction
crate_profile op = joined_of (info (classify_of op)) (masks_of op)

abbrev pub read_in : Profile → ℕ → Instruction → Instruction
read_in Crate op i = i
read_in Mended op i = first (mended_rows op i)

abbrev pub profile_of : Profile → ℕ → Instruction
profile_of p op = read_in p op (crate_profile op)

unfoldable pub profile_at : ℕ → Profile
profile_at n = cond (eqb n 1) Mended Crate

abbrev pub number_of : Profile → ℕ
number_of Crate = 0
number_of Mended = 1
