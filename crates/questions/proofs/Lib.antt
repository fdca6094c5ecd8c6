pub mod Above
pub mod Copying
