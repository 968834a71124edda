pub mod RowTests
pub mod Acting
pub mod Others
pub mod Closing
pub mod Plainly
pub mod Steady
pub mod FirstChild
