pub mod RuleFile
mod Checking
mod Firsts
pub mod Index
pub mod LookUp
