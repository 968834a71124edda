pub mod Counts
pub mod Mode
pub mod Request
pub mod Answers
pub mod Examples
