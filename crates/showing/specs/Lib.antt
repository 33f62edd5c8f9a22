-- What `show_trace` prints. The tool is the project's own, beside document 01's cost lister.
--
--   Lines    ==  the lines of the text: the header, a line for each record, the end
--   Showing  ==  the whole output
--   Inner    ==  what the functions inside answer; nothing of it enters the promise of `show_trace`
pub mod Showing
pub mod Lines
pub mod Inner
