-- What the program profile_differences prints.
--
--   Difference  ==  where two profiles differ, and the line of it
pub mod Difference
