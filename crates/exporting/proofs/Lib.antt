pub mod Marks
pub mod Spans
pub mod Carrying
pub mod Cases
