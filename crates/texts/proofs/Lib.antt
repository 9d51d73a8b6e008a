pub mod Scanning
pub mod Lining
pub mod Naming
pub mod Checking
pub mod Standing
pub mod Whole
pub mod Walking
