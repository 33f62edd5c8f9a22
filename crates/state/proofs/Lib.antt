pub mod Held
pub mod Stepping
