pub mod Bytes
pub mod Record
pub mod Exact
pub mod Following
