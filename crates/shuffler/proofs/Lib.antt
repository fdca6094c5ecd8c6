pub mod Held
pub mod Runs
pub mod Performing
pub mod Picks
pub mod Entry
pub mod Entries
