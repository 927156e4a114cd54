pub mod Digits
pub mod Words
pub mod Next
pub mod Exact
