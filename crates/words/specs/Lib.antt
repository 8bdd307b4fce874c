pub mod Parting
pub mod Values
pub mod Parts
pub mod Orders
