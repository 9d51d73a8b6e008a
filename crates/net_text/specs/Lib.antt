pub mod Filled
pub mod Joined
pub mod Nets
pub mod Reading
