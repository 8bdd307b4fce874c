pub mod FirstPair
pub mod Comparison
pub mod Table
