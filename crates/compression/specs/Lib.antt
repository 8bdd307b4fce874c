pub mod Words
pub mod Constants
pub mod Compression
pub mod Sixteens
