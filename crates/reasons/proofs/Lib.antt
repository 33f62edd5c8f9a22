pub mod Explaining
pub mod Telling
pub mod Turns
pub mod Judging
pub mod Fitting
pub mod Exactly
pub mod Costs
pub mod Refused
