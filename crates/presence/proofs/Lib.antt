pub mod Marks
pub mod Told
pub mod Stretches
pub mod Theorems
