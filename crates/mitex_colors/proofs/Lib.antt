pub mod Scans
pub mod Standing
pub mod Models
