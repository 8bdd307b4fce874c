pub mod CountLaws
pub mod Spending
pub mod LabelLaws
pub mod OpeningLaws
pub mod FileLaws
pub mod EndLaws
pub mod ResumingLaws
pub mod Resumed
