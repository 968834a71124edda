pub mod Syntax
pub mod Tree
pub mod Rows
pub mod Views
pub mod Spells
pub mod Places
pub mod Once
pub mod Examples
