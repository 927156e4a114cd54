pub mod Profiles
pub mod Says
pub mod Inner
