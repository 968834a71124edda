pub mod Passes
pub mod Unique
