pub mod Slots
pub mod Lines
pub mod Flows
pub mod Making
