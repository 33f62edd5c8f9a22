-- Document 01, part 5, on the numbers that are lent for a state.
--
--   WindowNumbers  ==  the numbers that are lent for a window, and how they are read
--   Lent           ==  the numbers that are lent for a state, and how they are read
--   Retire         ==  one retirement, and any event, on the numbers that are lent for a state
--   Decoded        ==  the opcodes that a run has decoded
pub mod WindowNumbers
pub mod Lent
pub mod Retire
pub mod Decoded
