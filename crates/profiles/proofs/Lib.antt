pub mod Numbers
pub mod Strips
pub mod Filling
pub mod Walk
pub mod Cases
