pub mod Lists
pub mod Exact
pub mod Unique
pub mod Agrees
