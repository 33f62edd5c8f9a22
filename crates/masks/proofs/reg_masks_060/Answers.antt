-- `reg_masks_060`: each arm is the definition's row of its groups.
use mathlib.Core.Logic.{inl, inr}
use Prim.Native.Nat.{◌<◌}
use native.Mathlib.Omega.{arith}
use Rattle.bits.specs.Fields.{group_of}
use Rattle.masks.specs.Masks.{sets_of}
use Rattle.masks.proofs.MasksGroups.{group_is, group_move, group_dyadic}
use Rattle.masks.proofs.reg_masks_060.Goals as goal
use Rattle.masks.proofs.reg_masks_060.Goals.{then-this-lt10, else-this-lt10+else-this-lt11+then-this-lt14, in_default-via-then-this-lt1, in_default-via-else-this-lt1+else-this-lt4+then-this-lt7, in_default-via-else-this-lt1+else-this-lt4+else-this-lt7+else-this-lt10+then-this-lt11, in_default-via-else-this-lt1+else-this-lt4+else-this-lt7+else-this-lt10+else-this-lt11+else-this-lt14}

pub returns-in-7 : goal.returns-in-7
unfolding sets_of
returns-in-7 c = group_is c.args.op (group_of c.args.op) 7 c.in-7.is c.moveq_masks.ensures

pub returns-in-5 : goal.returns-in-5
unfolding sets_of
returns-in-5 c = group_is c.args.op (group_of c.args.op) 5 c.in-5.is c.quick_masks.ensures

pub returns-in-14 : goal.returns-in-14
unfolding sets_of
returns-in-14 c = group_is c.args.op (group_of c.args.op) 14 c.in-14.is c.shift_masks.ensures

pub returns-in-4 : goal.returns-in-4
unfolding sets_of
returns-in-4 c = group_is c.args.op (group_of c.args.op) 4 c.in-4.is c.group4_masks.ensures

pub returns-in-1-to-3 : goal.returns-in-1-to-3
unfolding sets_of
returns-in-1-to-3 c = group_move c.args.op (group_of c.args.op) (omega arith) (omega arith) c.move_masks.ensures

pub returns-in-8 : goal.returns-in-8
unfolding sets_of
returns-in-8 c =
    group_dyadic c.args.op (group_of c.args.op)
    (elim c.in-8-1.branch [
      | then-this-lt10 w ↦ inl (omega arith, omega arith)
      | else-this-lt10+else-this-lt11+then-this-lt14 w ↦ inr (omega arith, omega arith)
    ])
    c.dyadic_masks.ensures

pub returns-in_default : goal.returns-in_default
unfolding sets_of
returns-in_default c =
    let g = group_of c.args.op in
    let top : g < 16 = omega arith in
    elim c.in_default.branch [
      | in_default-via-then-this-lt1 w ↦ group_is c.args.op g 0 (omega arith) c.full.ensures
      | in_default-via-else-this-lt1+else-this-lt4+then-this-lt7 w ↦ group_is c.args.op g 6 (omega arith) c.full.ensures
      | in_default-via-else-this-lt1+else-this-lt4+else-this-lt7+else-this-lt10+then-this-lt11 w ↦ group_is c.args.op g 10 (omega arith) c.full.ensures
      | in_default-via-else-this-lt1+else-this-lt4+else-this-lt7+else-this-lt10+else-this-lt11+else-this-lt14 w ↦ group_is c.args.op g 15 (omega arith) c.full.ensures
    ]
