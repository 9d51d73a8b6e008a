pub mod Counting
pub mod Asked
pub mod Admitted
pub mod Upheld
