pub mod Rising
pub mod Measuring
pub mod Planning
pub mod Writing
pub mod Storing
pub mod Laying
pub mod Exchanging
pub mod Whole
