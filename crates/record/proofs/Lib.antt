pub mod Unique
pub mod Trips
pub mod Following
