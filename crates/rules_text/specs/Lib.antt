pub mod Sums
pub mod Rules
pub mod Reading
pub mod Naming
