pub mod After
pub mod Carried
pub mod Statements
pub mod ShutOut
pub mod Calls
pub mod Told
