pub mod Runs
pub mod Inner
