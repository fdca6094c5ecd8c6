pub mod Held
pub mod Runs
pub mod Entry
pub mod Performing
pub mod Picks
pub mod Promises
