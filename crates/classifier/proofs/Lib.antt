pub mod Groups
pub mod Finishing
pub mod Flags
pub mod Tables
pub mod Six
pub mod FourRows
