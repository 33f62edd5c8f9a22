-- Document 02, R-1: why two instructions did not pair.
--
--   Reasons       ==  the reasons, their numbers and words, and the reason of one retirement
--   Fits          ==  when each reason fits, apart from that, and the clocks that a reason fixes
--   Explain       ==  one retirement with its reason, and any event, on the numbers that are lent for the state
--   ExplainRun    ==  a run of a trace that writes each retirement's reason too
--   ExplainTable  ==  the rows of the table of refusals for it
pub mod Reasons
pub mod Fits
pub mod Explain
pub mod ExplainRun
pub mod ExplainTable
