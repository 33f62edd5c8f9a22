pub mod Writing
pub mod Digits
pub mod Signs
mod HexDigits
pub mod Behind
