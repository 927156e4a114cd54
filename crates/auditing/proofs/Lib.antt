pub mod Windows
pub mod Following
