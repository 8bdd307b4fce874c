pub mod Layout
pub mod Head
pub mod HeadSteps
pub mod Challenge
