pub mod Padding
pub mod Digest
pub mod Portions
