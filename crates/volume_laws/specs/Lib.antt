pub mod Begun
pub mod Commits
pub mod Laws
pub mod Mounting
pub mod Read
pub mod Stores
pub mod Volume
