pub mod Parts
pub mod Going
pub mod Bounds
pub mod RuleLines
pub mod Standing
pub mod Adding
pub mod Whole
