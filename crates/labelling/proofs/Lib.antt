pub mod OneStep
pub mod HeldSize
pub mod BlockLaws
pub mod Walking
pub mod Filled
pub mod LastFirst
pub mod Padded
pub mod RuleLaws
