pub mod Words
pub mod Pieces
pub mod Answered
