pub mod Bools
pub mod Patterns
pub mod Rows
pub mod Words
pub mod Filling
pub mod Packing
pub mod Below
pub mod LaidOut
