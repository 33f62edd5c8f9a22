pub mod WordsLaws
pub mod Batch
