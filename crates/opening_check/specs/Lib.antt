pub mod OpeningCheck
