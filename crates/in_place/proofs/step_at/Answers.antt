-- `step_at`: what is looked up, as an entry, or one of the three points with it.
use mathlib.Core.Path.{◌≡◌, refl, sym, ap, ap₂, ◌∙◌}
use Prim.Native.Nat.{ℕ, ◌%◌}
use lib.Bits.{and_mask}
use mir.Facts.{to_z-of_z}
use mir.Syntax.{w32}
use borrow.Author.Rules.{rules}
use Rattle.window.specs.Raw.{raw_count}
use Rattle.window.specs.declared.dispatch.Instruction.{Instruction}
use Rattle.window.specs.declared.dispatch.Controls.{Controls}
use Rattle.profile.specs.declared.Profile.{Profile}
use Rattle.profile.specs.declared.Profile.TheVariants.{Crate}
use Rattle.profile.specs.Profile.{read_in, profile_of, profile_at}
use Rattle.state.specs.Flags.{controls_of, retirement_of}
use Rattle.window.specs.declared.raw.RawCount.{RawCount}
use Rattle.in_place.specs.Lent.{Lent, lent}
use Rattle.in_place.specs.Retire.{retire_by_of, retire_at_of}
use Rattle.in_place.proofs.step_at.Goals as goal
use Rattle.in_place.proofs.step_at.Goals.{Joined-asked-ne0, then-asked-ne0+else-asked-ne0-2, else-asked-ne0}

-- asked by 0, it is the crate's
by_crate : (asked op : ℕ) → asked ≡ 0 → profile_of Crate op ≡ profile_of (profile_at (asked % 2)) op
unfolding profile_at
by_crate asked op e = rw e refl

-- what is looked up is the profile's
looked : (c : Joined-asked-ne0) → c.if-asked-ne0.i ≡ profile_of (profile_at (c.args.asked % 2)) c.args.op
looked c =
    elim c.if-asked-ne0.branch [
      | then-asked-ne0+else-asked-ne0-2 w ↦
          w.i-is
          ∙ w.read_in-i.ensures
          ∙ ap₂ (λ (p : Profile) (i : Instruction). read_in p c.args.op i) (w.from-p.ensures ∙ ap profile_at (and_mask c.args.asked 1)) c.instruction_060-found.ensures
      | else-asked-ne0 w ↦ w.i-is ∙ c.instruction_060-found.ensures ∙ by_crate c.args.asked c.args.op w.if-asked-ne0.false
    ]

-- so the retirement by what was looked up is the profile's
by_profile : (l : Lent) (op : ℕ) (p : Profile) (flags ppc pc : ℕ) (raw : RawCount) {i : Instruction} → i ≡ profile_of p op → {k : Controls}
    → k ≡ controls_of flags ppc pc raw → retire_by_of i op k l ≡ retire_at_of p l (retirement_of op flags ppc pc raw)
by_profile l op p flags ppc pc raw e q = ap₂ (λ (x : Instruction) (y : Controls). retire_by_of x op y l) e q

pub returns-then-has-clause-window_after : goal.returns-then-has-clause-window_after
returns-then-has-clause-window_after c l =
    let k = rw (to_z-of_z {w = w32} {z = c.args.raw} (search rules)) at c.controls_of-k.ensures in
    c.retire_branch.ensures c.args.op
    ∙ by_profile (lent c.args.tags.now c.args.state.now c.args.window.now) c.args.op (profile_at (c.args.asked % 2)) c.args.flags c.args.ppc c.args.pc (raw_count c.args.raw) (looked (goal.at.returns-then-has-clause-window_after c).Joined-asked-ne0) k

pub returns-then-k-clause-window_after : goal.returns-then-k-clause-window_after
returns-then-k-clause-window_after c l =
    let k = rw (to_z-of_z {w = w32} {z = c.args.raw} (search rules)) at c.controls_of-k.ensures in
    c.retire_flow.ensures c.if-asked-ne0.i (sym c.has.ensures ∙ c.if-has.false) c.args.op c.args.tags.now c.args.state.now
    ∙ by_profile (lent c.args.tags.now c.args.state.now c.args.window.now) c.args.op (profile_at (c.args.asked % 2)) c.args.flags c.args.ppc c.args.pc (raw_count c.args.raw) (looked (goal.at.returns-then-k-clause-window_after c).Joined-asked-ne0) k

pub returns-clause-window_after : goal.returns-clause-window_after
returns-clause-window_after c l =
    let k = rw (to_z-of_z {w = w32} {z = c.args.raw} (search rules)) at c.controls_of-k.ensures in
    c.retire_neither.ensures c.args.tags.now c.args.state.now
    ∙ by_profile (lent c.args.tags.now c.args.state.now c.args.window.now) c.args.op (profile_at (c.args.asked % 2)) c.args.flags c.args.ppc c.args.pc (raw_count c.args.raw) (looked (goal.at.returns-clause-window_after c).Joined-asked-ne0) k
