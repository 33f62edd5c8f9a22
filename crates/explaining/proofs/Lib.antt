pub mod Tables
pub mod Lengths
pub mod Counting
pub mod Meeting
pub mod Going
pub mod Turning
pub mod Table
pub mod Whole
