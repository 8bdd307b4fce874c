pub mod NodeCosts
pub mod Sums
pub mod StepSums
pub mod RunCalls
pub mod OpeningCalls
pub mod FileCalls
