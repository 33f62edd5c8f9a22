-- The table of worked instructions, computed.
-- Assumes nothing.
use mathlib.Core.Path.{refl}
use Rattle.bits.specs.Pattern.{matches}
use Rattle.classifier.specs.Entry.{ea}
use Rattle.classifier.specs.LowGroups.{group0, move, group5, group6, group7}
use Rattle.classifier.specs.Group4.{group4}
use Rattle.classifier.specs.HighGroups.{group8, add_sub, group11, group12, group14}
use Rattle.classifier.specs.Classify.{classify_of}
use Rattle.masks.specs.Registers.{mask_of_regs}
use Rattle.masks.specs.GroupFour.{group4_sets}
use Rattle.masks.specs.Masks.{sets_of, dyadic_sets, shift_sets}
use Rattle.masks.specs.Operands.{operand_sets, register_operand}
use Rattle.promises.specs.Worked.{Worked}

pub worked : Worked
unfolding matches ea classify_of group0 move group4 group5 group6 group7 group8 add_sub group11 group12 group14 mask_of_regs sets_of operand_sets register_operand dyadic_sets shift_sets group4_sets
worked = record { every = refl }
