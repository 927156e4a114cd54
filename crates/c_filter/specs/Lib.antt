pub mod Filter
pub mod Naming
