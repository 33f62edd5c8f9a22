-- `timing_060_masks_of`: the two masks of the profile's instruction, which have nothing of the class word, in the struct that goes to the host.
use mathlib.Core.Path.{ap, ap₂, ◌∙◌}
use Prim.Native.Nat.{ℕ}
use Rattle.class_word.specs.Word.{info}
use Rattle.classifier.specs.Classify.{classify_of}
use Rattle.masks.specs.declared.registers.RegMasks060.{RegMasks060}
use Rattle.masks.specs.Masks.{masks_of}
use Rattle.window.specs.declared.dispatch.Instruction.{Instruction}
use Rattle.profile.specs.declared.Profile.{Profile}
use Rattle.profile.specs.Profile.{joined_of, read_in, profile_at}
use Rattle.profile.proofs.Apart.{uses_apart, defs_apart}
use Rattle.host.specs.declared.HostMasks.{HostMasks}
use Rattle.host.proofs.timing_060_masks_of.Goals as goal

abbrev pair : ℕ → ℕ → HostMasks
pair u d = record { uses = u; defs = d }

pub returns : goal.returns
returns c =
    let at = profile_at c.args.profile in
    let own = masks_of c.args.op in
    ap (λ (i : Instruction). pair i.uses i.defs)
    (c.read_in-read.ensures
    ∙ ap₂ (λ (x : Profile) (y : RegMasks060). read_in x c.args.op (joined_of (info 0) y)) c.from-p.ensures c.reg_masks_060-masks.ensures)
    ∙ ap₂ pair
    (uses_apart c.args.op (info 0) (info (classify_of c.args.op)) own.uses 0 own.defs 0 at)
    (defs_apart c.args.op (info 0) (info (classify_of c.args.op)) own.uses 0 own.defs 0 at)
