pub mod PlaceLaws
pub mod AboveLaws
