pub mod Carried
pub mod Back
pub mod Lists
