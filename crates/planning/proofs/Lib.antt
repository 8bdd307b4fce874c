pub mod Laying
pub mod AnswerLaws
pub mod InputLaws
pub mod LongEnough
