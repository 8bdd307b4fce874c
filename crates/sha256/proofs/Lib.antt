pub mod Gather
pub mod Blocks
pub mod Pushing
pub mod Digests
pub mod Portions
pub mod Compressions
pub mod Padded
pub mod Examples
