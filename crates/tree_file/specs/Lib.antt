pub mod Layout
pub mod Depth
pub mod Shape
pub mod Check
pub mod Parts
pub mod Examples
