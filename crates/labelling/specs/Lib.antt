pub mod Step
pub mod Rule
pub mod Buffer
pub mod Blocks
