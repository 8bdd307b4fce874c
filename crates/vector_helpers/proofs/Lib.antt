pub mod TextLaws
pub mod CallLaws
pub mod WholeLaws
