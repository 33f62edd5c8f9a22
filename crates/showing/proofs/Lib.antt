pub mod Lengths
pub mod Reading
pub mod Going
pub mod Shown
