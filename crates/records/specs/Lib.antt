-- Document 01, part 6, "Records and images": what a trace says, and whether it is taken.
--
--   Kinds        ==  the kinds of records: their numbers and the lengths of their payloads
--   Layout       ==  the bytes of a record
--   Faults       ==  what is wrong with a record whose kind is known: refusals 4, 5 and 6, or that it is sound
--   Record       ==  what stands at a place of a trace: a record's event, a refusal, or the end
--   Trace        ==  what a whole trace says: its events, or the first refusal
--   Judged       ==  the same with the refusals by size, and the room that a trace's costs and answers need
--   RecordTable  ==  the table of refusals, as far as it is about a record, row by row
--   TraceTable   ==  the table of refusals, as far as it is about traces, row by row
pub mod Kinds
pub mod Layout
pub mod Faults
pub mod Record
pub mod Trace
pub mod Walk
pub mod Judged
pub mod RecordTable
pub mod TraceTable
