pub mod Files
pub mod Settling
pub mod Delivering
pub mod Splicing
pub mod Again
pub mod Replacing
