pub mod Served
pub mod Schedules
