pub mod Given
pub mod Steady
pub mod FirstChild
