-- `timing_060_class_word`: the number in the class word of the profile's instruction, which has nothing of the masks.
use mathlib.Core.Path.{ap, ap₂, ◌∙◌}
use Rattle.class_word.specs.declared.Info060.{Info060}
use Rattle.class_word.specs.Word.{info}
use Rattle.classifier.specs.Classify.{classify_of}
use Rattle.masks.specs.Masks.{masks_of}
use Rattle.window.specs.declared.dispatch.Instruction.{Instruction}
use Rattle.profile.specs.declared.Profile.{Profile}
use Rattle.profile.specs.Profile.{read_in, profile_at}
use Rattle.profile.proofs.Apart.{word_apart}
use Rattle.host.proofs.timing_060_class_word.Goals as goal

pub returns : goal.returns
returns c =
    let m = masks_of c.args.op in
    ap (λ (i : Instruction). i.word.0)
    (c.read_in.ensures
    ∙ ap₂ (λ (x : Profile) (y : Info060). read_in x c.args.op (record { word = y; uses = 0; defs = 0 })) c.from-p.ensures c.info_060-word.ensures)
    ∙ ap (λ (y : Info060). y.0) (word_apart c.args.op (info (classify_of c.args.op)) (info 0) 0 m.uses 0 m.defs (profile_at c.args.profile))
