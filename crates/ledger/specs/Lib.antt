pub mod Ledger
pub mod Examples
