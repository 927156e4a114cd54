pub mod Fitting
pub mod Ordered
pub mod Cases
pub mod Carried
pub mod Floors
