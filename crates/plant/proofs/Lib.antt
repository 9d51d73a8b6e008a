pub mod Lowest
pub mod Answering
pub mod Alone
pub mod Made
