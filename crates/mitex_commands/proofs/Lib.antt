pub mod Items
pub mod Ruling
