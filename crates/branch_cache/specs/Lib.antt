-- Document 01, part 4: the branch cache.
--
--   Slot   ==  a slot's byte, and the rule of one slot
--   Cache  ==  the cache of 256 slots, over that rule
pub mod Cache
pub mod Slot
