-- Document 01, part 2: the classifier; and document 02, R-3.
--
--   Classify    ==  the group of an opcode, and the class word of every opcode: read it first
--   LowGroups   ==  the rows of groups 0 to 7, but for group 4
--   Group4      ==  the rows of group 4
--   HighGroups  ==  the rows of groups 8 to 14
--   Entry       ==  what an operand and an instruction give: class, clocks and flags
--   Rules       ==  the proofreader's rules: the same class words by the opcode's upper ten bits
pub mod Classify
pub mod LowGroups
pub mod Group4
pub mod HighGroups
pub mod Entry
pub mod Rules
