pub mod Digits
pub mod Line
pub mod Texts
