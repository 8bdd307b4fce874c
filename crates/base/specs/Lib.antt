pub mod Choice
pub mod Bytes
pub mod Lists
pub mod Limits
pub mod Number
pub mod Row
