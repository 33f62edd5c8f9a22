-- Document 01, part 5: what one event does to a state.
--
--   Board       ==  what is chosen at the start: how an opcode is read, and which branch cache is asked
--   Events      ==  retirements, breaks and clears over any board: the state after each, and a run of them
--   CrateCache  ==  the branch cache of document 000
--   Timing      ==  its state as the structs of the code hold it
--   Flags       ==  a retirement as numbers, its flags as one
pub mod Board
pub mod Events
pub mod CrateCache
pub mod Timing
pub mod Flags
