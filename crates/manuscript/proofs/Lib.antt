pub mod Manuscript
pub mod Root
pub mod Answers
