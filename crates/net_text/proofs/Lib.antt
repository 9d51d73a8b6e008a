pub mod Names
pub mod ArcLines
pub mod Adding
pub mod Standing
pub mod Whole
pub mod Joining
