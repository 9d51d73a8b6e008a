pub mod Numbers
pub mod Lines
pub mod Walking
pub mod Spans
