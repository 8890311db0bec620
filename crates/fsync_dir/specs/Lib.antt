pub mod Members
pub mod Answering
pub mod Site
pub mod Flush
pub mod Attempt
pub mod Ending
pub mod Stamped
