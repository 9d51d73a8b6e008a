pub mod Banks
pub mod Machines
pub mod Making
pub mod Ranging
pub mod Words
