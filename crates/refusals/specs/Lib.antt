-- Document 01, "Records and images": the refusals, and what a run gives.
--
--   Refusals  ==  the number and the place of each refusal, the table's two columns
--   Verdict   ==  what was handed in is taken, or it is refused
--   Given     ==  that a verdict is the refusal with a number at a place
--   Refused   ==  what a refused run gives
--   Runs      ==  the two runs that a run of a trace or a batch is lent to write
pub mod Refusals
pub mod Verdict
pub mod Given
pub mod Refused
pub mod Runs
