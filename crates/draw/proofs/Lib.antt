pub mod LeavesOpened
pub mod Chains
pub mod AcceptedFile
