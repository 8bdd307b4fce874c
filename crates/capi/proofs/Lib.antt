pub mod Numbers
pub mod RefusedHashes
pub mod Clashes
