pub mod Presence
pub mod Inner
