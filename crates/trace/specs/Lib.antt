-- Document 01, part 6, "Records and images": the run over a trace. What a trace says, and whether it is taken, is said
-- in the crate records.
--
--   TraceTurns  ==  what an event does to the lent numbers, and so what a record does that was read
--   Run         ==  what a run of a trace gives, and what it leaves in the lent bytes
pub mod Run
pub mod TraceTurns
