pub mod Cells
pub mod Tables
pub mod AsRead
pub mod Made
