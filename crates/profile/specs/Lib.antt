-- What an opcode is to the pairing window.
--
--   Profile  ==  document 01, parts 2 and 3 joined, and the profile that is chosen at start
--   Mending  ==  document 02, R-4: the mended profile, as rows over the crate's
--   Inner    ==  what a function inside answers
pub mod Profile
pub mod Mending
pub mod Inner
