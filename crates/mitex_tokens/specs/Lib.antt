pub mod Escapes
pub mod Comes
pub mod Running
pub mod Runs
