-- Document 01, part 3: masks.
--
--   Registers  ==  sets of registers, and the mask of a set
--   Operands   ==  what reaching an operand uses and defines, and the groups that are all operands
--   GroupFour  ==  what each instruction of group 4 uses and defines
--   Masks      ==  what every instruction uses and defines, and its two masks
pub mod Masks
pub mod Registers
pub mod Operands
pub mod GroupFour
