-- Document 01, part 6: what the cost lister prints.
--
--   Lines    ==  the lines of the text: refusals, the header, a line for each retirement, the total
--   Listing  ==  the cost lister's whole output
--   Printed  ==  the text by the verdict of a run, its costs as bytes; nothing of it enters the promise of `list_trace`
pub mod Listing
pub mod Lines
pub mod Printed
