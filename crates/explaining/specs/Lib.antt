-- Document 02, R-1: what `why` prints.
--
--   Words     ==  what stands in the columns
--   WhyLines  ==  the lines of the text: the header, a line for each retirement, a line for each reason
--   Why       ==  the whole output
--   Inner     ==  what the functions inside answer; nothing of it enters the promise of `why_text`
pub mod Words
pub mod WhyLines
pub mod Why
pub mod Inner
