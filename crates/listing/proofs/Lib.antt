pub mod Reading
pub mod Costs
pub mod Listing
pub mod Within
pub mod Lengths
pub mod TableLines
