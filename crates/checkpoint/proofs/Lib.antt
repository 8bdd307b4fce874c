pub mod OpeningsLaws
pub mod ReadingLaws
pub mod WritingLaws
