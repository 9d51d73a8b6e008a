pub mod Firing
pub mod Recorded
pub mod Flowing
