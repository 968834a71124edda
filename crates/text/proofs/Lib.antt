pub mod Numbers
pub mod Trailer
pub mod Compare
pub mod Writing
pub mod Decimal
pub mod Outputs
pub mod Slices
