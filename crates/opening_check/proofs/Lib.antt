pub mod OneOpening
