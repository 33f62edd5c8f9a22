pub mod Largest
pub mod Seen
pub mod Led
pub mod Sound
pub mod Zero
pub mod Answered
