pub mod WordLaws
pub mod PartsLaws
pub mod ValueLaws
pub mod OrderLaws
