pub mod Calls
pub mod Building
pub mod Ringed
