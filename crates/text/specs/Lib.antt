-- Numbers and words as the tools print them.
--
--   Decimal  ==  decimal digits
--   Hex      ==  hexadecimal digits
--   Signed   ==  the decimal digits of a signed number
--   Written  ==  text in lent bytes
pub mod Decimal
pub mod Written
pub mod Hex
pub mod Signed
