-- `retire`: the step asked to retire, by the number of the profile.
use mathlib.Core.Path.{ap, ◌∙◌}
use Prim.Native.Nat.{ℕ, ◌%◌}
use mir.Facts.{to_z-of_z}
use mir.Syntax.{w32}
use borrow.Author.Rules.{rules}
use Rattle.bits.specs.Words.{meets}
use Rattle.profile.specs.declared.Profile.{Profile}
use Rattle.profile.specs.Profile.{profile_at}
use Rattle.state.specs.Flags.{retirement_of}
use Rattle.in_place.specs.Lent.{lent}
use Rattle.in_place.specs.Retire.{retire_at_of}
use Rattle.in_place.proofs.Entries.{asked_retire}
use Rattle.in_place.proofs.retire.Goals as goal

pub returns : goal.returns
returns c =
    let raw = c.args.raw.0 in
    (rw (to_z-of_z {w = w32} {z = c.args.raw.0} (search rules)) at (c.step_at.ensures.window_after (ap (λ (k : ℕ). meets k 2) c.from-number.ensures ∙ (asked_retire c.args.profile).0)))
    ∙ ap (λ (q : Profile). retire_at_of q (lent c.args.tags.now c.args.state.now c.args.window.now) (retirement_of c.args.op c.args.flags c.args.ppc c.args.pc c.args.raw))
    (ap (λ (k : ℕ). profile_at (k % 2)) c.from-number.ensures ∙ (asked_retire c.args.profile).1)
