-- Document 01, part 4, "Branch cache", and the paragraph on the cache in "One retirement". The Rust: BranchCache060.
--
-- The slots of the cache:
--   cache_at ts bs                   ==  the cache of these tags and bytes
--   slot_at c n                      ==  slot n of the cache, a tag and a byte
--                                        "The cache holds one tag and one byte for each of 256 slots"
--   slot_put c n slot                ==  the cache with this slot at n, all others as they were
--   slot_of pc                       ==  the number of the slot that the address pc of a branch goes to
--                                        "slot is bits 1 to 8 of ppc"
-- The cache:
--   cache_predict_of c pc            ==  what the slot that pc goes to predicts
--   cache_update_of c pc taken user  ==  the cache with the slot that pc goes to updated
--   clear_all_of c                   ==  256 bytes of 0, the tags as they were
--                                        "Clear-all zeroes each byte"; "tags and window stay"
--   clear_user_byte_of b             ==  0 for a byte with bit 3, any other as it was
--                                        "clear-user each byte with bit 3"
--   clear_user_of c                  ==  each byte so cleared, the tags as they were
--                                        "tags and window stay"
--   cache_fresh_of                   ==  the cache at the start, the Rust's default
--                                        "a fresh state (zeros, window shut)"
use Rattle.std.specs.Prelude.{ℕ, ◌/◌, ◌%◌, Bool, cond, List, map, get_or, set, replicate, Option}
use Rattle.branch_cache.specs.declared.slot.Slot.{Slot}
use Rattle.branch_cache.specs.Slot.{user_of, predict_of, update_of}
use Rattle.branch_cache.specs.declared.BranchCache060.{BranchCache060}

abbrev pub cache_at : List ℕ → List ℕ → BranchCache060
cache_at tags state = record { tags = tags; state = state }

unfoldable pub slot_at : BranchCache060 → ℕ → Slot
slot_at c n = record { tag = get_or c.tags n 0; byte = get_or c.state n 0 }

unfoldable pub slot_put : BranchCache060 → ℕ → Slot → BranchCache060
slot_put c n slot = record { tags = set c.tags n slot.tag; state = set c.state n slot.byte }

abbrev pub slot_of : ℕ → ℕ
slot_of pc = pc / 2 % 256

abbrev pub cache_predict_of : BranchCache060 → ℕ → Option Bool
cache_predict_of c pc = predict_of (slot_at c (slot_of pc)) pc

abbrev pub cache_update_of : BranchCache060 → ℕ → Bool → Bool → BranchCache060
cache_update_of c pc taken user = slot_put c (slot_of pc) (update_of (slot_at c (slot_of pc)) pc taken user)

abbrev pub clear_all_of : BranchCache060 → BranchCache060
clear_all_of c = record { tags = c.tags; state = replicate 256 0 }

abbrev pub clear_user_byte_of : ℕ → ℕ
clear_user_byte_of b = cond (user_of b) 0 b

abbrev pub clear_user_of : BranchCache060 → BranchCache060
clear_user_of c = record { tags = c.tags; state = map clear_user_byte_of c.state }

abbrev pub cache_fresh_of : BranchCache060
cache_fresh_of = record { tags = replicate 256 0; state = replicate 256 0 }
