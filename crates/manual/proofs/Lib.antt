pub mod Inclusions
