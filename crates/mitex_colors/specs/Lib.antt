pub mod Scanning
pub mod Models
