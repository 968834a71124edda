pub mod Chart
pub mod Steps
pub mod White
pub mod Chars
pub mod Trimming
pub mod Grammar
pub mod Texts
