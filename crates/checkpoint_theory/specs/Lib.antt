pub mod OnTheWay
pub mod Back
