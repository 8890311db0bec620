pub mod Rest
pub mod Seen
