pub mod Listed
pub mod Each
pub mod Lengths
pub mod Flags
