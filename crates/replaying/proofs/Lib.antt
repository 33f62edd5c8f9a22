pub mod Replaying
pub mod Rows
