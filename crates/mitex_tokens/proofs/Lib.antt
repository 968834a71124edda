pub mod Spacing
pub mod Tokens
pub mod Coming
pub mod Running
pub mod Copying
