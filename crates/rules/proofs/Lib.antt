pub mod Stages
pub mod Popping
pub mod Swapping
pub mod Fetching
pub mod Completed
pub mod Chains
