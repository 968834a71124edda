pub mod Manuscript
