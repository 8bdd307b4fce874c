pub mod Bitwise
pub mod SixteensLaws
