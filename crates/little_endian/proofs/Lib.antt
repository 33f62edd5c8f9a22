pub mod Numbers
pub mod Each
pub mod Loops
