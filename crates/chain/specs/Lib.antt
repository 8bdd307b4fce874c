pub mod PlanRow
pub mod Leaves
