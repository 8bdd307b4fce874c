pub mod HeadLaws
pub mod WritingLaws
pub mod RowLaws
pub mod ChallengeLaws
pub mod Leaves
