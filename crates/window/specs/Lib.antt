-- Document 01, part 5: the pairing window.
--
--   Windows   ==  the shut window, a window as it is read, and one without its head's opcode and address
--   Raw       ==  a raw 68000 count as 68060 clocks
--   Dispatch  ==  the dispatch test: the six rules, in order
--
-- `cond t x y` is x where t holds, else y; `w.opened` is the field `opened` of w.
pub mod Windows
pub mod Raw
pub mod Dispatch
