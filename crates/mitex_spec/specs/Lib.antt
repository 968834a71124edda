pub mod Rules
pub mod RuleFile
pub mod Index
pub mod Unique
pub mod LookUp
pub mod Examples
