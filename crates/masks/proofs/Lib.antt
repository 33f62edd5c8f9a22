pub mod MasksGroups
pub mod Opmodes
pub mod RegistersLaws
pub mod Sets
pub mod Modes
