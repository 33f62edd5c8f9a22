-- Document 01, part 6, "Records and images": numbers in bytes.
--
--   Numbers  ==  the number at a place, the bytes of a number, and bytes put at a place
--   Signed   ==  the signed number of 32 bits
pub mod Numbers
pub mod Signed
