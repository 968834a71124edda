pub mod Carries
pub mod Rows
pub mod Reading
pub mod Fitting
pub mod Writing
pub mod Moving
pub mod Fronts
