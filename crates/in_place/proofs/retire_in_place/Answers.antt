-- `retire_in_place`: the flags as one number hold each flag, and the profile's number holds the profile.
use mathlib.Core.Path.{ap, ap₂, ◌∙◌}
use mir.Facts.{to_z-of_z}
use mir.Syntax.{w32}
use Rattle.std.proofs.Common.{FitsSigned}
use Rattle.window.specs.declared.dispatch.Controls.{Controls}
use Rattle.in_place.specs.Lent.{lent}
use Rattle.in_place.specs.Retire.{retire_at_of}
use Rattle.profile.specs.declared.Profile.{Profile}
use Rattle.profile.specs.Profile.{profile_at}
use Rattle.profile.proofs.Numbered.{profile_held}
use Rattle.state.proofs.Held.{controls_held}
use borrow.Author.Rules.{rules}
use Rattle.in_place.proofs.retire_in_place.Goals as goal

pub returns : goal.returns
returns c =
    let l = lent c.args.tags.now c.args.state.now c.args.window.now in
    let fits : FitsSigned w32 c.args.r.controls.raw.0 = search rules in
    let held = rw (← c.control_flags-flags.ensures) at (controls_held c.args.r.controls) in
    (rw (to_z-of_z {w = w32} {z = c.args.r.controls.raw.0} fits) at c.retire_at.ensures)
    ∙ ap₂ (λ (x : Profile) (k : Controls). retire_at_of x l (record { op = c.args.r.op; controls = k })) (ap profile_at c.from-number.ensures ∙ profile_held c.args.profile) held
