pub mod Steps
pub mod SoFar
pub mod Writers
pub mod Buffers
pub mod States
pub mod Runs
pub mod Examples
