pub mod Ends
pub mod Starting
pub mod Stepping
pub mod Reaching
pub mod Pieces
pub mod Measuring
pub mod Rewriting
pub mod Drafting
