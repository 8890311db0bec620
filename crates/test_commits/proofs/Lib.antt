pub mod Planning
pub mod Spaces
