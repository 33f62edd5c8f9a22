pub mod Numbered
pub mod Reclassing
pub mod Apart
mod Joining
mod Masking
