-- Document 01, part 5: one retirement, over what an instruction is to the window.
--
--   Retiring  ==  all that one retirement depends on; the three kinds
--   Branch    ==  whether a branch is taken, what it costs, and the number of the cache's answer
--   Cost      ==  the cost of a retirement, the window that it leaves, and what the cache predicted, as a number
--   Free      ==  the retirements that cost 0
--
-- `cond t x y` is x where t holds, else y; `r.window.opened` is the field `opened` of the field `window` of r.
pub mod Retiring
pub mod Cost
pub mod Branch
pub mod Free
