pub mod Reading
pub mod Exact
