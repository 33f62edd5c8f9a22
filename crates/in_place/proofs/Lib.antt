pub mod Paying
pub mod Held
pub mod NumbersHeld
pub mod Entries
