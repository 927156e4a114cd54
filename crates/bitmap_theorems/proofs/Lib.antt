pub mod Listed
pub mod Trips
pub mod Exact
pub mod Unique
