pub mod Places
pub mod Possible
