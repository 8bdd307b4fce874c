pub mod FolderLaws
pub mod HashLaws
pub mod LeftLaws
pub mod NameLaws
