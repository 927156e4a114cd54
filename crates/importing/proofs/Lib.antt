pub mod Records
pub mod Strips
pub mod Windows
pub mod Passing
