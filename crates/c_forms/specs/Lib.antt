pub mod Flat
pub mod Answer
pub mod Scan
pub mod Limits
