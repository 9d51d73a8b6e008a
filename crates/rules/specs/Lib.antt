pub mod Rules
pub mod Divisors
pub mod Searching
pub mod Rounding
pub mod Weighing
