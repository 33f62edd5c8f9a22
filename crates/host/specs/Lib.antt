-- What a host calls: the steps, runs and images of the crates below, over numbers that it lends. One retirement and the
-- other events are in_place's.
--
--   HostMasks   ==  the masks of an opcode
--   HostRan     ==  what a host is given back: a verdict, a count and a total as numbers, and the lent numbers
--                   afterwards
--   HostRuns    ==  runs of a trace, on lent numbers
--   HostWords   ==  a batch as 32-bit words, four for each record: their retirements, and their batch on lent numbers
--   HostWhy     ==  why a retirement costs what it costs: one step, and a run of a trace, on lent numbers
--   HostImages  ==  image writing and image reading, on lent numbers
pub mod HostMasks
pub mod HostRan
pub mod HostRuns
pub mod HostWords
pub mod HostWhy
pub mod HostImages
