pub mod Grants
pub mod Ledgers
pub mod Values
pub mod Calls
