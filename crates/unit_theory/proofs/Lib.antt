pub mod NameLaws
pub mod Alone
pub mod AloneCalls
pub mod Schedule
pub mod Turns
