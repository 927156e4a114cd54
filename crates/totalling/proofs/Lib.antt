pub mod Spelling
pub mod Signs
