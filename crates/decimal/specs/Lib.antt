pub mod Ascii
pub mod Numbers
pub mod Text
pub mod Steps
