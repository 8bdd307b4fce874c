pub mod Places
pub mod Tidy
pub mod TidySteps
pub mod Reading
pub mod Sizes
pub mod Pausing
