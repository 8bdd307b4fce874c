pub mod Folder
pub mod LeftOver
pub mod Names
