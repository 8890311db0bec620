pub mod Calls
pub mod FailAt
pub mod Fuse
