pub mod Listing
pub mod Naming
