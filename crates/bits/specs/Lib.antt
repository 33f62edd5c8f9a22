-- What an opcode's bits say. Shared by the definitions of document 01's parts.
--
--   Pattern       ==  opcode patterns, and when an opcode matches one
--   Instructions  ==  the patterns of instructions, by group
--   Fields        ==  the fields of an opcode
--   Rows          ==  a rule as rows tried in order
--   Words         ==  one bit of a word, bits packed into one, and two words with a bit in common
--   Below         ==  tests of the numbers below a bound
pub mod Pattern
pub mod Instructions
pub mod Fields
pub mod Rows
pub mod Words
pub mod Below
