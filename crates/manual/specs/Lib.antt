-- Document 02, R-4: "as Motorola's Programmer's Reference Manual gives them".
--
--   Manual  ==  seven instructions: valid forms, and the registers that each reads and writes
pub mod Manual
