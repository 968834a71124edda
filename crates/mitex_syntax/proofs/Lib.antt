pub mod Reading
pub mod Kinding
pub mod Deciding
pub mod Trees
pub mod Seeking
pub mod Places
pub mod Tokens
pub mod Apart
