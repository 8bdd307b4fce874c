pub mod Front
pub mod Resumed
pub mod TakenUp
