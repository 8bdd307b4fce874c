pub mod Steps
pub mod Sizes
pub mod Output
pub mod ReadBack
pub mod ShortestOnly
pub mod Checked
