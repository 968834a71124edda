pub mod Demands
pub mod Starred
pub mod NearPasses
