pub mod Checks
pub mod FirstPairLaws
pub mod Lookup
pub mod Turns
pub mod FillingLaws
