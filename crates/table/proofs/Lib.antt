pub mod Texts
pub mod Firing
pub mod Filling
pub mod Making
pub mod Reading
