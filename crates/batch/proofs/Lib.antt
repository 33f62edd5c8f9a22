pub mod Refusals
pub mod Run
pub mod Loop
