pub mod Laying
pub mod ReadLaws
