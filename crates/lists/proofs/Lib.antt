pub mod Finding
pub mod Blocks
pub mod Searching
