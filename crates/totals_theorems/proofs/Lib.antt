pub mod Exact
pub mod Unique
pub mod Halves
pub mod Bounds
pub mod Together
