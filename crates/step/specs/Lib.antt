-- Document 01, part 5: the boards that are chosen at start.
--
--   Boards  ==  a profile and document 000's cache together, and one event on their state
pub mod Boards
