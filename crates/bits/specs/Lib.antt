pub mod Bitmap
pub mod Word
