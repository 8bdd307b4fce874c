pub mod NumbersSteps
pub mod NumbersLaws
pub mod HeldCounts
pub mod WritingLaws
pub mod ReadingLaws
