-- Document 01, part 4, "Branch cache", and the paragraph on the cache in "One retirement": one slot. The Rust: the
-- constants BC_*, and what predict and update of BranchCache060 do at one index.
--
-- The byte of a slot:
--   counter_of b                    ==  its counter
--                                       "bits 0 and 1 counter"
--   valid_of b                      ==  it is valid
--                                       "bit 2 valid"
--   user_of b                       ==  it was allocated in user mode
--                                       "bit 3 allocated in user mode"
--   byte_of counter valid user      ==  the byte made of these three, with all higher bits 0
--   higher_of b                     ==  the byte with counter 0 and all higher bits kept
--                                       "higher bits are kept on a hit"
-- One slot, at the branch at pc:
--   hit_of slot pc                  ==  the slot holds this branch
--                                       "A hit needs valid and an equal full tag"
--   predict_of slot pc              ==  whether a hit predicts taken; None where there is no hit
--                                       "It predicts taken from counter 2 up"
--   counter_after_of counter taken  ==  one up but not above 3 if taken, else one down but not below 0
--                                       "the counter steps and stays within 0 to 3"
--   update_of slot pc taken user    ==  the slot after the branch: on a hit the counter steps
--                                       "A taken miss allocates with counter 2; a not-taken miss changes nothing"
use Rattle.std.specs.Prelude.{ℕ, ◌+◌, ◌-◌, ◌*◌, ◌/◌, ◌%◌, min, Bool, true, cond, ◌&&◌, eqb, leb, Option, Some, None}
use Rattle.bits.specs.Words.{num, bit}
use Rattle.branch_cache.specs.declared.slot.Slot.{Slot}

abbrev pub counter_of : ℕ → ℕ
counter_of b = b % 4

abbrev pub valid_of : ℕ → Bool
valid_of b = bit 2 b

abbrev pub user_of : ℕ → Bool
user_of b = bit 3 b

abbrev pub byte_of : ℕ → Bool → Bool → ℕ
byte_of counter valid user = counter + 4 * num valid + 8 * num user

abbrev pub higher_of : ℕ → ℕ
higher_of b = b / 4 * 4

abbrev pub hit_of : Slot → ℕ → Bool
hit_of slot pc = valid_of slot.byte && eqb slot.tag pc

unfoldable pub predict_of : Slot → ℕ → Option Bool
predict_of slot pc = cond (hit_of slot pc) (Some (leb 2 (counter_of slot.byte))) None

-- `-` stops at 0, so that 0 less 1 is 0
abbrev pub counter_after_of : ℕ → Bool → ℕ
counter_after_of counter taken = cond taken (min (counter + 1) 3) (counter - 1)

unfoldable pub update_of : Slot → ℕ → Bool → Bool → Slot
update_of slot pc taken user =
    cond (hit_of slot pc)
    (record { tag = slot.tag; byte = higher_of slot.byte + counter_after_of (counter_of slot.byte) taken })
    (cond taken (record { tag = pc; byte = byte_of 2 true user }) slot)
