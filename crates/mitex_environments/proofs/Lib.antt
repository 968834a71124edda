pub mod Beginning
pub mod Captioning
