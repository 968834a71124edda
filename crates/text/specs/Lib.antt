pub mod Ascii
pub mod Numbers
pub mod Compare
pub mod Writing
pub mod Trailer
pub mod Outputs
pub mod Slices
pub mod Examples
