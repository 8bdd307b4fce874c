pub mod TwoLines
pub mod HeadsLaws
pub mod DifferLaws
pub mod TellingLaws
pub mod InfoLaws
pub mod ChainLaws
pub mod RefusalLaws
