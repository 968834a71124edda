pub mod Splitting
pub mod Endings
