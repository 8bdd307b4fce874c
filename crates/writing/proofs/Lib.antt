pub mod RowLaws
pub mod PartLaws
pub mod OpenLaws
pub mod BegunLaws
pub mod StepLaws
pub mod BlockLaws
pub mod FollowLaws
